pub mod Faultless
mod Taken
mod Counted
mod Asking
mod Rows
