-- A solid's numbers, and what a call comes to, part by part.
pub mod Numbers
pub mod Answers
