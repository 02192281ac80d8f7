-- What a call comes to, as the answer of its entry point.
pub mod Answers
