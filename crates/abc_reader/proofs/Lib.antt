pub mod Asks
pub mod Steady
mod Fit
mod LineParts
mod Pieces
pub mod Started
pub mod Feeding
pub mod ReadingOn
pub mod RawLines
mod FirstLines
pub mod Inputs
pub mod Lending
pub mod Closed
mod AskingRows
