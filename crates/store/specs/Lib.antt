pub mod Stores
pub mod Events
pub mod Sending
pub mod Laws
