-- Steps of the code, in words that no public clause uses.
pub mod Region
pub mod Steps
