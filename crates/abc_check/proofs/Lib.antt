-- Lemmas on the type check.
pub mod Accepting
pub mod Alike
pub mod Answering
pub mod Beginning
pub mod Ending
pub mod Finding
pub mod Grouping
pub mod Halving
pub mod Holding
pub mod Instances
pub mod KindVars
pub mod Knowing
pub mod Lasting
pub mod Linewise
pub mod Membering
pub mod Offering
pub mod OwnValues
pub mod PartVars
pub mod Putting
mod Rows
pub mod Somes
pub mod Taking
