pub mod Bytes
pub mod Words
pub mod Ties
pub mod Wants
