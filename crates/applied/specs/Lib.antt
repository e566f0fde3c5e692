-- What one rule does to the record in its lent buffers. To be read in this order.

-- one rule applied
pub mod Apply
-- what each function promises, and that it leaves one result
pub mod Promises
-- what functions say to each other
pub mod Inner
-- what is proved about the definitions, for use in proofs
pub mod Laws
