pub mod Settling
pub mod Entering
pub mod Tabled
pub mod Laws
