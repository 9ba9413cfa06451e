pub mod House
pub mod Step
pub mod Laws
pub mod Sound
