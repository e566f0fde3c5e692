-- What only the proofs of this crate need.
pub mod Guards
pub mod Shows
pub mod Exits
