-- What tests are.
pub mod inner
pub mod TestGrammar
pub mod TestReadings
pub mod BoundFronts
pub mod PredicateForms
pub mod RegularTests
