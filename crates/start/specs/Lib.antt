-- What the start promises.
pub mod Start
pub mod Settled
