-- `Theorems` is the front door.
pub mod Parts
pub mod Roots
pub mod Floats
pub mod Permitted
pub mod Theorems
