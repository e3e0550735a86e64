-- Principal signatures of units.
pub mod Exact
pub mod Principals
pub mod Calls
pub mod TargetVars
pub mod inner
