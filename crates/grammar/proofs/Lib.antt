-- What is proved for use in proofs.
pub mod Laws
-- what is read is what the grammar says
pub mod Spelled
-- where a byte leads, state by state
pub mod Moves
