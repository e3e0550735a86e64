-- Steps of the code, in words that no public clause uses. The computed readings of tests are made of them, and a law says what those are.
pub mod TestMachine
pub mod TestSteps
