pub mod Digits
pub mod Headers
pub mod Writing
