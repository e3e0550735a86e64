-- What the code keeps on the way.
pub mod Asked
pub mod Ends
pub mod Groupwise
pub mod Halves
pub mod Shaped
