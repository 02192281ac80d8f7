pub mod Replies
pub mod Loop
pub mod Whole
