pub mod Calls
pub mod Fits
pub mod Groups
pub mod Items
pub mod Seen
pub mod Typable
