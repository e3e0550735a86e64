-- What the code keeps on the way.
pub mod Nodes
