-- What is proved about the definitions, for use in proofs.

-- which places a rule writes
pub mod Untouched
