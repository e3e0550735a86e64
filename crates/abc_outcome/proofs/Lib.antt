-- Lemmas on what comes of items.
mod Finding
mod Reached
mod Firsts
mod CallLines
mod Ends
mod Stays
mod Named
mod Commits
pub mod Shapes
pub mod Steady
mod Suffixes
mod Lifted
mod Taking
mod Runs
mod Items
mod Hindering
mod Typed
mod Accepted
mod KeepsUnits
mod Told
mod TypeLines
