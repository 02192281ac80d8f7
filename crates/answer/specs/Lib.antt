pub mod Wrote
pub mod Settled
