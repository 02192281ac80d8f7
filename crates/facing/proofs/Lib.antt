-- The corners one by one.
pub mod Units
pub mod Corners
