pub mod Listed
pub mod Columns
pub mod Lists
pub mod Words
pub mod Stamping
pub mod Laws
