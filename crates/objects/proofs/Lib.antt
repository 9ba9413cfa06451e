pub mod Helds
pub mod Numbering
pub mod Kept
pub mod Sought
pub mod Laws
pub mod Reached
