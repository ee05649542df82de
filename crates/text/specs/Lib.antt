pub mod Fields
pub mod Hex
pub mod Laws
pub mod LineViews
pub mod Lines
pub mod Reads
pub mod WordViews
pub mod Words
