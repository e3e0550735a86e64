-- Steps of the code, in words that no public clause uses.
pub mod Alike
pub mod Heights
pub mod Keeps
pub mod Kept
pub mod Merging
pub mod Printing
