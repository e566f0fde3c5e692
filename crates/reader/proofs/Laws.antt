-- Laws for the proofs of the crates above this one.
pub mod Capped
pub mod Kept
pub mod Byte
