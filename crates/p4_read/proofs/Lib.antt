pub mod Finding
pub mod Keeping
pub mod Storing
pub mod Reading
