-- What the tokens of a line and its shape are.
pub mod Bytes
pub mod inner
pub mod Words
pub mod Texts
pub mod Tokens
pub mod Shape
pub mod Scanned
pub mod Kinds
pub mod Values
pub mod ReadLine
pub mod ConversionEnds
