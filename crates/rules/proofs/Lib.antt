pub mod Fairness
pub mod Twice
pub mod SoundHeaps
pub mod SoundLists
pub mod SoundParts
pub mod SoundWords
pub mod Sound
