-- What is proved about the definitions, for use in proofs. To be read in this order.

-- the clause that the due rule names, and the place of its reason
pub mod Named
-- a search rule by rule; the rounds of its loop
pub mod Runs
pub mod Rounds
