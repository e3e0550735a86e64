-- The pending work of a run, and what it leads to.
pub mod Pending
pub mod Weights
pub mod Leads
pub mod Views
pub mod Steps
pub mod AtOnce
