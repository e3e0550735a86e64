-- What is computed for lines, from the last to the first, and what the call answers.
pub mod Taking
pub mod Built
pub mod Computed
pub mod Backward
pub mod Opened
pub mod Said
