-- Laws for the proofs of the functions.

-- ends in order, one by one
pub mod Cutting
-- the look at a clause, and what it makes due
pub mod Looks
-- where `position` finds the lowest
pub mod Position
pub mod Decision
-- what is proved about the definitions
pub mod Laws
