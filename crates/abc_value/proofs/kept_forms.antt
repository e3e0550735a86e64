-- The form that a list or a table keeps with its elements.
pub mod Wholes
pub mod Keeping
pub mod KeepingSteps
pub mod KeptShapes
