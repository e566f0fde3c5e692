-- The clauses by the tables. To be read in this order.

-- the lowest clause of a kind, and a unit clause
pub mod Lowest
pub mod Found
-- what each function promises, and that it leaves one result
pub mod Promises
-- what functions say to each other
pub mod Inner
