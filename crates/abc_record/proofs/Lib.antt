pub mod Changes
pub mod Fields
pub mod Leading
pub mod Numbers
pub mod Pushing
mod Rows
pub mod Sorted
pub mod Times
pub mod Trees
pub mod Weights
