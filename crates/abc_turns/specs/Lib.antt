-- The session over any items, and what a stop leaves of it.
pub mod Session
pub mod Steady
pub mod Stops
