pub mod Targets
pub mod Units
pub mod OwnLines
pub mod Typed
pub mod Spelled
pub mod Wholes
pub mod Images
mod Stepping
mod Leaving
mod Rows
