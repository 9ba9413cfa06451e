pub mod Tied
pub mod Shown
pub mod Recipients
