-- `Sides` has definitions; `Sizes` shows that a measurable answer's numbers are low, `Settled` that the promise leaves no choice.
pub mod Sides
pub mod Sizes
pub mod Settled
