mod Rows
pub mod Follow
pub mod Image
mod Append
mod Begin
mod Found
mod Full
mod Agrees
mod Head
mod Keeping
mod Renewed
mod Taken
mod Writes
