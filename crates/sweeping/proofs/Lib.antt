pub mod Drives
pub mod Leaving
pub mod Running
pub mod Truth
