-- Laws for the proofs of every room.
pub mod Bools
pub mod Lists
pub mod Listed
pub mod Stores
pub mod Words
pub mod Counts
pub mod Rows
