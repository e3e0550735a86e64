-- Calls in the order of the text.
pub mod inner
