-- Lemmas on schemes.
mod Said
mod Placing
mod Exactness
pub mod Later
mod Copies
