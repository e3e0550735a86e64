-- Lemmas on what is reached.
pub mod Texts
pub mod Walks
pub mod UnitLaws
pub mod Numbering
pub mod Exploring
pub mod GraphLaws
pub mod Leasts
pub mod Classing
pub mod Sorting
pub mod Members
mod Rows
