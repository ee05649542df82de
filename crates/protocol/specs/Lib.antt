pub mod Agreement
pub mod Card
pub mod Examples
pub mod Field
pub mod Reader
pub mod Settings
pub mod Turns
