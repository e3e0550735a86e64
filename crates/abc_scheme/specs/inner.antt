-- What the code keeps on the way.
pub mod Places
pub mod Copies
