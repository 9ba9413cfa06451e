pub mod Orders
pub mod Forms
pub mod Views
pub mod Showing
