-- Lemmas on workspaces with fewer units or lines.
pub mod Among
pub mod Cuts
pub mod Fitting
pub mod Nodes
pub mod Staying
pub mod Ways
