mod Layers
mod Rows
mod MoreRows
mod ReadRows
mod Nested
mod Decided
pub mod Opened
pub mod Asked
pub mod Carried
pub mod Nodes
pub mod Everywhere
mod Telling
pub mod Kept
pub mod Longer
pub mod Ended
mod Rising
mod Marking
mod RegularNumbers
mod RegularValues
mod RegularRows
mod RegularLiterals
mod Regularly
