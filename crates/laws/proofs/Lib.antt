-- What rests on the laws of `specs/` that must-fail edits break, module by module; `Theorems` and `TwoCalls` state what holds on every solid by name.
pub mod Flat
pub mod Generators
pub mod Choosing
pub mod Axes
pub mod Ended
pub mod Rounds
pub mod Checks
pub mod Picks
pub mod Answers
pub mod BothWays
pub mod Touches
pub mod Touched
pub mod Handed
pub mod Row
pub mod Stacks
pub mod Theorems
pub mod TwoCalls
