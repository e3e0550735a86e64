-- The made input, and what is said of a run on it.
pub mod Input
pub mod Summary
pub mod LastLine
