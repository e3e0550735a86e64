pub mod Outcomes
pub mod Pending
pub mod Machine
pub mod Moves
