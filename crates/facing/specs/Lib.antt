-- What the looks at p, q and the corners promise.
pub mod Facing
pub mod Looks
pub mod Settled
