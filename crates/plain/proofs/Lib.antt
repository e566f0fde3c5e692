-- What only the proofs of this crate need.
pub mod Bits
pub mod Given
pub mod Guards
