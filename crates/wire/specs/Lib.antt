pub mod Names
pub mod Refusals
pub mod Format
pub mod Laws
