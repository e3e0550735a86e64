pub mod Forms
pub mod Graphs
pub mod Outer
pub mod inner
