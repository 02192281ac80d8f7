pub mod Places
pub mod Put
pub mod Puts
pub mod Decimals
pub mod Settled
