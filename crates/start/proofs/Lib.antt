-- The axes and the start, question by question.
pub mod Axes
pub mod Turns
pub mod Starts
