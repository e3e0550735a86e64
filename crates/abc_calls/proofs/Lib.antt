-- Lemmas on lists of calls.
mod Listing
