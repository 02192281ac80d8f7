-- What the pick, the quick touch, the start check and the walk from a ready start promise.
pub mod Ends
pub mod Promises
pub mod Excluded
