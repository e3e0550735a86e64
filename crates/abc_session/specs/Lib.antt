-- What a session reads, says and keeps.
pub mod Product
pub mod Session
pub mod Told
pub mod Exact
pub mod Place
pub mod Serving
pub mod Settled
pub mod Run
pub mod Status
pub mod Stops
