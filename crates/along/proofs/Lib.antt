-- The question along a line, power by power.
pub mod Alongs
