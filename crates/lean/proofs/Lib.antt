-- The spread, side by side; the answer.
pub mod Spreading
pub mod Knowing
