-- What a ready start promises.
pub mod Facts
