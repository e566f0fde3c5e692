-- Laws for the proofs of the functions.

-- the tests of a word, for the loops that look for the first
pub mod First
