pub mod Calls
pub mod Fetches
pub mod Outcomes
pub mod Requests
pub mod Results
pub mod Setups
pub mod Stages
