-- Steps of the code, in words that no public clause uses.
pub mod Drafts
pub mod Leads
pub mod Named
pub mod Walks
pub mod Wholes
