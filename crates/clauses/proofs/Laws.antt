-- What is proved about the definitions, for use in proofs. To be read in this order.

-- the lowest clause of a kind, and words that have a place
pub mod Lowest
pub mod Walk
