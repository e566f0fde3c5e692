-- Laws for the proofs of the functions.

-- one rule applied
pub mod Applying
