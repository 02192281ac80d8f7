-- A solid's numbers, and what one call comes to.
pub mod Numbers
pub mod Calls
