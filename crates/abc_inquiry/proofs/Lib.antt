mod Showing
mod Dropping
mod Spelled
