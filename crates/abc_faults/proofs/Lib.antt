-- Lemmas of the faults of an item.
pub mod Leasts
pub mod Around
mod Judgements
