-- The proofs of what `specs/` states. They stand apart, so that a must-fail edit of a statement breaks them, and reads well.
pub mod Picks
pub mod Proved
pub mod Corollary
pub mod TouchProved
pub mod RowProved
