-- What is promised of a firm footing, function by function.
pub mod Firm
pub mod Settled
