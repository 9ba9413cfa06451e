pub mod Model
pub mod Slots
pub mod Shown
pub mod Laws
