-- The start, its refusals, the footing on it, and the answers.
pub mod Starts
pub mod Clearing
pub mod Standing
pub mod Answers
