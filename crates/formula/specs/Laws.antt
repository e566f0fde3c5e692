-- Laws for the proofs of this room and of those above.
pub mod Limits
pub mod Check
pub mod Named
pub mod Places
pub mod Ends
pub mod Once
pub mod Clauses
pub mod Layout
pub mod Prefix
pub mod Permuted
pub mod Accepted
