pub mod Bits
pub mod Roots
pub mod Components
pub mod Answers
