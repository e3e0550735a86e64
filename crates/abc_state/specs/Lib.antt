pub mod Routines
pub mod Views
pub mod Agrees
pub mod Reads
pub mod Words
pub mod inner
