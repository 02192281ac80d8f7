-- The normal, and the answer at the end.
pub mod Ends
pub mod Ended
