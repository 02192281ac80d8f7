pub mod Asks
pub mod Grid
pub mod Facts
pub mod Ranks
