-- Lemmas on what lines say.
pub mod Found
pub mod Spans
pub mod Levels
pub mod Cutting
pub mod Places
pub mod Slashes
pub mod Fronts
pub mod CallWords
pub mod Titles
pub mod LoneWords
pub mod Commands
pub mod LiteralForms
pub mod LawsOf
pub mod SharedNames
pub mod Sayings
pub mod Fitting
pub mod Headed
mod LineRows
mod LineEdges
mod Layers
mod SoundTokens
mod CommandForms
mod RegularLines
pub mod Keys
