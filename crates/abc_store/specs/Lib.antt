-- What a store keeps, what an image opens to, and what a commit comes to.
pub mod Workspace
pub mod Opening
pub mod Commit
pub mod View
pub mod Laws
pub mod inner
