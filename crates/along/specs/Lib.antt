-- A line along an axis, and what its question promises.
pub mod Lines
pub mod Facts
pub mod Settled
