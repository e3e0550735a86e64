-- What one line of an item says.
pub mod inner
pub mod Cuts
pub mod Names
pub mod Says
pub mod Readings
pub mod Fits
pub mod Formulas
pub mod Edges
pub mod RegularClauses
