-- Laws for the proofs of the functions.

-- the table of levels, the table of statuses
pub mod Levelled
pub mod Stated
