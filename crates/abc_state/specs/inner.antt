-- Steps of the code, in words that no public clause uses.
pub mod Examples
pub mod Lengths
