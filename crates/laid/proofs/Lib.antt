-- What only the proofs of this crate need.
pub mod Words
