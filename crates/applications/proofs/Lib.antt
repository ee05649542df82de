pub mod Heads
pub mod MetreBooks
pub mod MetreCommands
pub mod MetreDraws
pub mod YarnCommands
pub mod YarnMemory
pub mod YarnReads
