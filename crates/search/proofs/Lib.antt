-- What is proved about the definitions, for use in proofs.
pub mod Laws
