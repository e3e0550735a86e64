-- What lines that ask about the workspace answer.
pub mod inner
pub mod Inquiry
pub mod Laws
