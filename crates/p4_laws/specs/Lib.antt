-- What holds of P4 stacks. The front doors are `RoundTrips` and, for document 02's 2026-02, `Touching` (what follows a comment: `proofs/Touching`) and `Stays`.
pub mod Judging
pub mod Stores
pub mod Rows
pub mod Scans
pub mod White
pub mod Touching
pub mod Headers
pub mod Images
pub mod Places
pub mod Plain
pub mod ReadBack
pub mod Looks
pub mod Trips
pub mod RoundTrips
pub mod Base
pub mod Stays
