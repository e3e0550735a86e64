-- The order of values, and what is found by it.
pub mod OrderLaws
pub mod Comparing
pub mod Found
