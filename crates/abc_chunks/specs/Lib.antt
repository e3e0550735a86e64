pub mod formers
pub mod inner
pub mod Towers
