-- What is proved about the definitions, for use in proofs. To be read in this order.

-- the first of a list, and a loop that looks for it
pub mod Searches
pub mod Left
pub mod Firsts
-- the searches over the tables
pub mod VariablesMean
