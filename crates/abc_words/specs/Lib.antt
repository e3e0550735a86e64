-- What the words of the program ask for.
pub mod Words
