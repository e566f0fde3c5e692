-- A second opinion: what it answers for every block, and that the session and the listing say the same. To be read in this order.

-- its answer
pub mod Solve
-- what it promises, and that this leaves one answer
pub mod Promises
-- which number a refused block is given
pub mod Rows
-- the session and the listing say the same
pub mod Agrees
pub mod Openings
-- what functions say to each other; what is proved of all these
pub mod Inner
