-- `Proved`, `TouchProved`, `RowProved` and `LeanProved` show that demand 3, what is wanted of touches, the two calls in a row, the known lean and the firm footing reach the host.
pub mod Proved
pub mod TouchProved
pub mod RowProved
pub mod LeanProved
