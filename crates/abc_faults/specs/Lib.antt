-- Definitions of what is wrong with an item.
pub mod Facts
pub mod Names
pub mod Given
pub mod Exits
pub mod Causes
pub mod Environments
pub mod Faults
pub mod Sayings
pub mod Judging
pub mod inner
