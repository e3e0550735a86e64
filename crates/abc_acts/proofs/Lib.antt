-- Lemmas on acts.
pub mod Acting
pub mod Adding
pub mod Matching
pub mod Parts
pub mod Rows
pub mod Steps
pub mod Taking
