-- What lines spell, and that it is one thing.
pub mod Cuts
pub mod Joining
pub mod Formed
pub mod Whole
pub mod Stepping
pub mod Alone
