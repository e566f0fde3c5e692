-- The record in its lent buffers. To be read in this order.

-- the record and the search; what a search finds; row 12
pub mod Trail
pub mod Search
pub mod Found
pub mod Check
-- what each function promises, and that it leaves one result
pub mod Promises
-- what functions say to each other
pub mod Inner
