pub mod Words
pub mod Numbers
pub mod Hex
pub mod Calls
pub mod Lines
pub mod Output
pub mod Arguments
pub mod Status
