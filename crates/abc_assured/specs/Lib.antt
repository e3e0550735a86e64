-- Definitions.
pub mod Assured
