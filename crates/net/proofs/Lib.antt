pub mod Rows
pub mod Worlds
pub mod Entered
pub mod Broken
pub mod SettlingParts
pub mod SettlingReads
pub mod SettlingWhole
pub mod Sent
