-- Laws for the proofs of the functions.

-- the table of values; the buffers, and row 12
pub mod Values
pub mod Row12
-- what is proved about the definitions
pub mod Laws
