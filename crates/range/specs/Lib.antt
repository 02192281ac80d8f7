-- What a number in a range tells.
pub mod Ranges
pub mod Judged
