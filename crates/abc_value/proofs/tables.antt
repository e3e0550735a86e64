-- Tables: their keys and associates, a pair more or fewer, and tables that are made at once.
pub mod Columns
pub mod Keys
pub mod RisingKeys
pub mod Pairing
pub mod Heights
pub mod Collecting
pub mod MergingPairs
pub mod Tables
