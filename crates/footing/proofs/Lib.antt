-- How large the ways are, and the looks: at one way, at all ways, at all powers.
pub mod Ways
pub mod Looks
