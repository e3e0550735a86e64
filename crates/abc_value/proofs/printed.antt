-- Printed forms and displays, and the decimals of numbers.
pub mod Characters
pub mod Appending
pub mod Outers
mod PrintedRows
pub mod Displayed
pub mod LongDivision
pub mod FiniteDecimals
