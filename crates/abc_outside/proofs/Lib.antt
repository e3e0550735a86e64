pub mod Leaves
pub mod Quiet
mod Tears
pub mod Lists
mod Calls
mod Rows
pub mod Unread
pub mod LineParts
pub mod Called
