-- Steps of the code, in words that no public clause uses.
pub mod Binding
pub mod Changing
pub mod Fields
