-- Steps of the code, in words that no public clause uses; the computed readings are made of them.
pub mod AddressSteps
pub mod Heights
pub mod Machine
pub mod Numbers
pub mod Splitting
pub mod Steps
