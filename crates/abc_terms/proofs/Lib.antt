pub mod Below
pub mod Grounds
pub mod Terms
pub mod Mending
pub mod Renaming
