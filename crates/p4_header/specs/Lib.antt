pub mod Reads
pub mod Settled
