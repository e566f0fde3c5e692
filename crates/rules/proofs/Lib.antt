-- Laws for the proofs of the functions.

-- the tables; the test for a monotone variable
pub mod Wiping
pub mod Occurring
pub mod Monotone
-- what is proved about the definitions; that a promise leaves one answer, where that rests on a law
pub mod Laws
pub mod Only
