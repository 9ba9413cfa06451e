pub mod Places
pub mod Edits
pub mod Table
pub mod Noted
pub mod Passes
pub mod Reach
pub mod Gathers
pub mod Well
