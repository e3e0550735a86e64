pub mod Items
pub mod SplitterView
