-- What the choice keeps, and why that is document 01's choice.
pub mod Best
pub mod Numbers
pub mod Sound
pub mod Lighter
