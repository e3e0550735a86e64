-- Lemmas on principal signatures.
mod Answering
mod Asked
mod Cutting
mod Exactness
pub mod Finding
mod Fitted
mod Freshness
mod Knowing
mod Levels
mod Loops
pub mod Named
mod Placed
mod Readings
mod Together
