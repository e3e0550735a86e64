-- Lemmas on steps of commands.
pub mod Levels
pub mod Acting
pub mod Fronts
pub mod Reading
pub mod Asking
pub mod Alone
pub mod Changing
