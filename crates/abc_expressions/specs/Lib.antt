-- What expressions and addresses are.
pub mod inner
pub mod Signs
pub mod Lexemes
pub mod Operators
pub mod Texts
pub mod Grammar
pub mod Fronts
pub mod Addresses
pub mod Readings
pub mod NameTokens
pub mod NamesOfTrees
