-- What is proved for use in proofs.
pub mod Laws
