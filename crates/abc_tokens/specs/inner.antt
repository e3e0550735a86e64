-- Steps of the code, in words that no public clause uses.
pub mod ConversionSteps
pub mod Reading
pub mod Reads
pub mod Shapes
pub mod Steps
