pub mod Sends
pub mod Lines
