-- What a round keeps and promises.
pub mod Corners
pub mod Round
pub mod Settled
