-- What the walk promises.
pub mod Walk
pub mod Settled
