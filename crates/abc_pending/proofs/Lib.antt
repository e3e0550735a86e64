-- Lemmas on the pending work.
pub mod Levels
pub mod Falling
pub mod Growing
pub mod GoingOn
pub mod AtOnce
pub mod Addresses
