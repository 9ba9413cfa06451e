pub mod Model
pub mod Shown
pub mod Met
pub mod Marks
pub mod Gathered
