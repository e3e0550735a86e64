-- Steps of the code, in words that no public clause uses.
pub mod Answering
pub mod Lines
pub mod Running
pub mod Settling
pub mod Steps
