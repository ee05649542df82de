pub mod Over
pub mod Rooms
pub mod Stores
