pub mod Computed
pub mod inner
pub mod Laws
pub mod Lexemes
pub mod Literals
