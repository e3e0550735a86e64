-- Lemmas of values.
pub mod trees
pub mod ordering
pub mod lists
pub mod tables
pub mod forms
pub mod kept_forms
pub mod printed
