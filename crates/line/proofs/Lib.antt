pub mod Finding
pub mod Counting
pub mod Numbers
pub mod Steps
pub mod Whole
