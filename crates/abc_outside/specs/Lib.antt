-- What a host tells of the world outside, and what a stop of it may leave.
pub mod Outside
pub mod Stop
pub mod Ranges
pub mod Failing
pub mod MemoryStop
pub mod MemoryLaws
pub mod MemoryView
pub mod Names
pub mod Lines
