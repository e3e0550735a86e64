-- Each item is regular and well formed.
pub mod NumbersRead
pub mod WellFormed
pub mod CalledTemplates
pub mod Formulas
pub mod TreesRegular
pub mod Settled
pub mod ItemsRegular
