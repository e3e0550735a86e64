-- How a reader cuts an input into lines and items, and when it asks for more.
pub mod inner
pub mod Asking
pub mod Items
pub mod Reading
pub mod Lending
