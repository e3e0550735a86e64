pub mod Demands
pub mod Nodes
pub mod Renamed
pub mod Sizes
