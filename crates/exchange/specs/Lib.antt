pub mod Exchanges
pub mod Faults
pub mod Lent
pub mod Links
pub mod Listening
pub mod Moves
pub mod Runs
pub mod Views
