-- What the looks of a footing promise.
pub mod Footing
pub mod Settled
