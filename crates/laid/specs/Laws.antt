-- Laws for the proofs of this crate and of those above it.
pub mod Stores
pub mod Completed
pub mod Parts
pub mod Marks
