pub mod Points
pub mod Endings
pub mod Fronts
pub mod Unfolding
pub mod Using
mod Rows
