-- What a checker knows of a workspace.
pub mod Cuts
pub mod Standing
pub mod inner
