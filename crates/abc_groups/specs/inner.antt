-- Definitions that are steps of the code.
pub mod Found
pub mod Explored
pub mod Least
pub mod Search
pub mod Sorted
pub mod Named
