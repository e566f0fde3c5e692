-- What is proved about the definitions, for use in proofs. To be read in this order.

-- the record in the buffers, and what row 12 leaves of it
pub mod Wiped
pub mod Records
pub mod Last
pub mod Good
-- tables by variable
pub mod Filled
-- checked input
pub mod Accepted
