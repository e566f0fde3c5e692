-- What is proved for use in proofs.
pub mod Laws
-- the reader in pieces
pub mod Whole
-- an accepted text: its block, and its meaning
pub mod Meaning
-- what is read of worked texts
pub mod Examples
