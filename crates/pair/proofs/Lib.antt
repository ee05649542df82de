pub mod Crossings
pub mod Delivered
pub mod Going
pub mod Heard
pub mod Kept
pub mod Ordered
pub mod Shorts
