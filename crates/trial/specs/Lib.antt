pub mod Benches
pub mod NextLines
pub mod Outputs
pub mod Played
pub mod Rows
pub mod Starts
