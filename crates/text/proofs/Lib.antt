pub mod Breaks
pub mod Comes
pub mod Cuts
pub mod Hexes
