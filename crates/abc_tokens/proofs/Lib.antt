-- Lemmas on tokens.
mod Tails
pub mod NumberTokens
mod SignTokens
mod InFront
mod Judging
mod TextSteps
mod TextLoop
mod TokenSteps
pub mod TextLaws
pub mod Faults
pub mod Placed
pub mod Bare
pub mod OneConversion
mod ConversionSteps
mod TokenLaws
mod Fronts
mod EndsSteps
mod ShapeLaws
pub mod LongestTexts
pub mod Conversions
mod Values
mod ReadLines
pub mod WordKinds
