-- What Decide may take. To be read in this order.

-- the first unassigned variable; what a run proposes
pub mod First
pub mod Preferred
-- what each function promises, and that it leaves one result
pub mod Promises
-- what functions say to each other
pub mod Inner
-- what is proved about the definitions, for use in proofs
pub mod Laws
