-- The numbers of a call, as they are read back from their bits.
pub mod Read
