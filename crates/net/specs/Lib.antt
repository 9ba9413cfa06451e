pub mod Rows
pub mod Worlds
pub mod Posted
pub mod Nets
pub mod Settling
pub mod Laws
