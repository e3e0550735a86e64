-- Lemmas on steps within expressions.
pub mod AtOnce
