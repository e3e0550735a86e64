-- Lemmas on the machine.
pub mod Asking
pub mod Falling
pub mod Moving
pub mod Starting
