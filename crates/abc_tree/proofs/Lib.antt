-- Lemmas on trees.
pub mod Adding
pub mod Rising
pub mod Calling
pub mod BoundNames
pub mod Opening
pub mod OneTemplate
mod RegularRows
pub mod RegularItemRows
mod RegularLimits
mod NodeRows
