-- Lemmas on the typing rules.
pub mod CallsSeen
mod Examples
pub mod Heading
pub mod Listed
pub mod Listing
mod PartLoops
