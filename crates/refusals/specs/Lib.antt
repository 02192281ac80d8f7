-- A refusal, and what it tells.
pub mod Refusals
