-- The formula block, why one is refused, what an accepted one means, and when it is true.

-- a formula, its block, its truth
pub mod Limits
pub mod Formula
pub mod Truth
-- when a block is refused, and what `check` answers
pub mod Block
pub mod Check
pub mod Rows
-- what each function promises, and that it leaves one answer
pub mod Promises
-- what the theory of the rules asks of a formula
pub mod Proper
-- what functions say to each other
pub mod Inner
-- what is proved of all these
pub mod Laws
