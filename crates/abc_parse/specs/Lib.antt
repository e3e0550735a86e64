-- Definitions of the parser.
pub mod Parts
pub mod Roots
pub mod Trees
pub mod Items
pub mod Readings
pub mod RegularTemplates
pub mod RegularTrees
pub mod inner
