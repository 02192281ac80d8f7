-- The round, pair by pair.
pub mod Numbers
pub mod Ways
pub mod Rounds
