pub mod Calls
pub mod Executed
pub mod Laws
