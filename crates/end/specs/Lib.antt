-- What the end of a walk promises.
pub mod End
pub mod Answers
pub mod Settled
