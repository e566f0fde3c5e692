-- The due rule. To be read in this order.

-- the due rule
pub mod Due
-- what each function promises, and that it leaves one result
pub mod Promises
-- what functions say to each other
pub mod Inner
