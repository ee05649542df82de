pub mod Calls
pub mod Orders
pub mod Rows
pub mod Setup
pub mod SetupViews
