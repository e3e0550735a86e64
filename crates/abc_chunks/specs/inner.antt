-- Steps of the code, in words that no public clause uses.
pub mod Notes
pub mod Spots
