-- The proofs of what `specs/` states. They stand apart, so that a must-fail edit of a statement breaks them, and reads well.
pub mod LeanProved
pub mod LeanCases
pub mod FirmProved
