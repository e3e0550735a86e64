-- What holds of each thing in an item, by what its lines say.
pub mod PartsMade
pub mod Titles
pub mod SimpleNodes
pub mod EachPart
pub mod EachLine
pub mod EachItem
pub mod Limits
pub mod Rising
