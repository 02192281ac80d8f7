-- What every question of a pick is about, and what the falls question promises.
pub mod Scene
pub mod Certain
pub mod Bodies
pub mod Sizes
pub mod Fits
pub mod Falls
pub mod Powers
pub mod Settled
