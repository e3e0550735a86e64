-- Lemmas on runs.
pub mod Asking
pub mod PuttingBack
