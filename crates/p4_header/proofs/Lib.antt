pub mod Scanning
pub mod Judgements
