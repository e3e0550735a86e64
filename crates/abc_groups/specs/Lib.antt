-- What is reached by calls, what is missing, and which call each other.
pub mod inner
pub mod Reach
pub mod Program
pub mod Groups
