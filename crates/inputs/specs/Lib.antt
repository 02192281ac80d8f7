-- What judging the inputs promises.
pub mod Ranges
pub mod Judging
pub mod Inputs
pub mod Facts
pub mod Settled
