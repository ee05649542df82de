pub mod Calls
pub mod Fit
pub mod Held
pub mod Told
