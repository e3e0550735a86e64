-- The heading of a unit, its refinements and the numbers of its names.
pub mod FewNames
pub mod Different
pub mod Headings
pub mod KnownNames
pub mod TitleNames
pub mod SharedNumbers
