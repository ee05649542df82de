pub mod Hears
pub mod Judged
mod Parts
pub mod ReadsAts
pub mod ReadsPps
pub mod ReadsRats
mod Seen
mod Taken
pub mod Waiting15
pub mod Whole
pub mod Writes
