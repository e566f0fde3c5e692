-- What functions say to each other.

-- the tests of a clause
pub mod Clauses
