-- The outline of an item and its own names.
pub mod inner
pub mod Rows
pub mod ByTokens
pub mod Outline
pub mod Parts
pub mod LineNames
pub mod Refinements
pub mod OwnNames
