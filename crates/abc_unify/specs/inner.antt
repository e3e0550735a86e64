-- Steps of the code, in words that no public clause uses.
pub mod Cycles
pub mod Kinds
pub mod Logs
pub mod Naming
pub mod Reading
pub mod Slots
pub mod Stamps
pub mod States
