pub mod inner
pub mod Bytes
pub mod Kept
pub mod KeptTests
pub mod Laws
pub mod Place
pub mod Spelling
