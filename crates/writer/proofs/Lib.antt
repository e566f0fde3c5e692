-- What is proved for use in proofs.
pub mod Laws
-- the refusals
pub mod WriteRows
-- a text that was written is read back
pub mod WrittenBack
-- cases
pub mod Examples
