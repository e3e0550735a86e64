-- Values as trees: their rows, parts and heights.
pub mod Rows
pub mod Itemised
pub mod Lower
pub mod Short
pub mod Making
