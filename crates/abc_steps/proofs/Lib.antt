-- Lemmas on how work begins and goes on.
pub mod Waits
pub mod Beginning
pub mod Ends
pub mod Asking
pub mod Behind
