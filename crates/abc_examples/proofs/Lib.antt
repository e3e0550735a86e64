-- Worked rows, each file of one subject, and the units and lemmas that they share.
pub mod Units
pub mod Typing
mod Fewer
pub mod Principals
mod Groups
pub mod Checkers
mod Made
mod Inquiries
pub mod Records
pub mod Reading
pub mod TypeLines
pub mod Outcomes
mod Told
mod AtOnce
