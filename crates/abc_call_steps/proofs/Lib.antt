-- Lemmas on steps of calls and actuals.
pub mod Levels
pub mod Plain
pub mod GoingOn
pub mod Bodies
pub mod Calling
pub mod CallLemmas
