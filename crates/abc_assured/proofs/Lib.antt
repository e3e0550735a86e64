-- Lemmas.
mod Reached
mod Premises
