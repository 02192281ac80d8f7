-- What rests on a law of `specs/` that a must-fail edit breaks.
pub mod Touching
