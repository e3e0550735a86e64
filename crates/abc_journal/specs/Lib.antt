-- What an image of a store opens to, and what a journal knows of it.
pub mod Image
pub mod Format
pub mod inner
pub mod Journal
pub mod Checkpoint
pub mod Commit
pub mod View
