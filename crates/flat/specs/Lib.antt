-- `Flat` has the definitions; `Handed` shows that a ready start and a pick come back from a host as they were.
pub mod Flat
pub mod Handed
