pub mod Demanded
pub mod Later
pub mod Typings
pub mod inner
