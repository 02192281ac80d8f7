-- `Promises` has the definitions; `Settled` shows that each promise leaves no choice.
pub mod Promises
pub mod Settled
