pub mod Heads
pub mod Looping
