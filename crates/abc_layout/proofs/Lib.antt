mod Fronts
mod Splitting
mod Feeding
pub mod Whole
