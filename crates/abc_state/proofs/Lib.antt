-- Lemmas on the state of a run and on values.
pub mod ExampleForms
pub mod Fillers
pub mod Flags
pub mod Forming
pub mod JoinedPlaces
pub mod Lines
pub mod Parts
pub mod Past
pub mod Restoring
pub mod Taking
pub mod Writing
