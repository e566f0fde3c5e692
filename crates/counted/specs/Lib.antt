-- The counted run: what it answers and leaves, for every input. To be read in this order.

-- what is lent; what a fresh count is; when a call is refused; what it answers and leaves
pub mod Lent
pub mod Fresh
pub mod Refusals
pub mod Counted
-- what the function promises, and that it leaves one result
pub mod Promises
-- which number a refused call is given
pub mod Rows
-- what functions say to each other
pub mod Inner
-- any calls, counted runs among them
pub mod Mixed
