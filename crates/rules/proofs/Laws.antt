-- What is proved about the definitions, for use in proofs. To be read in this order.

-- the due rule is a rule of the theory
pub mod Searches
pub mod WhyDue
pub mod Steps
-- the searches and the tests of a clause over the tables
pub mod VariablesMean
pub mod ClausesMean
pub mod ClausesReady
pub mod Kinds
