-- Which types some variables may have together.
pub mod Schemes
pub mod Later
pub mod inner
