-- Keeping the lighter pair is document 01's choice.
pub mod Lighter
