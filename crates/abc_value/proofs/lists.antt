-- Lists in order: an element more or fewer, ranges, and lists that are made at once.
pub mod Adding
pub mod Placing
pub mod Removing
pub mod Ranges
pub mod Alike
pub mod Checking
pub mod Merging
