-- What the code keeps on the way, in words that no public clause uses.
pub mod Grouped
