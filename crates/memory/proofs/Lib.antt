-- What only the proofs of this crate need.
pub mod Guards
pub mod Noted
-- what is proved about the definitions
pub mod Laws
