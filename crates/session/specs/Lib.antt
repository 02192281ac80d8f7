-- `Theorems` is the front door.
pub mod Printing
pub mod Lengths
pub mod Theorems
