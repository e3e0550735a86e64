-- What comes of an item.
pub mod Names
pub mod Reply
pub mod Missing
pub mod Spelled
pub mod Outcome
pub mod Answers
pub mod Checks
pub mod Laws
pub mod Stops
pub mod inner
