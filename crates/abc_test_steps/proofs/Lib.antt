-- Lemmas on steps within tests.
pub mod AtOnce
pub mod Chains
