-- The frame and the refusals, question by question.
pub mod Frames
pub mod Judged
