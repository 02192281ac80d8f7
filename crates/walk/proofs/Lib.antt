-- The unit vectors, and the walk, round by round.
pub mod Units
pub mod Walks
