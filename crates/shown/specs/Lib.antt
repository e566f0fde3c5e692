-- The witness of an ended session: what the call answers and writes, for every input. To be read in this order.

-- when it is refused, what it answers and writes
pub mod Shown
-- what it promises, and that it leaves one result
pub mod Promises
-- which number a refused call is given, and what it leaves
pub mod Rows
-- what is shown after any history
pub mod Witnessed
-- cases
pub mod Examples
-- what functions say to each other; what is proved for use in proofs
pub mod Inner
pub mod Laws
