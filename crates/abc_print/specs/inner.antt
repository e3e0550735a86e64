-- Steps of the code. Of public clauses only `literal_of` is computed by them, and a law says what that is.
pub mod Lexing
pub mod Machine
