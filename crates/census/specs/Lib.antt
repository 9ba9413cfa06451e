pub mod Model
pub mod Shown
pub mod Standings
pub mod Moods
pub mod Laws
