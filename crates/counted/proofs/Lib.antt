-- Laws for the proofs of the functions.

-- the index: words counted by place, counts summed up, clauses entered
pub mod Counting
pub mod Starting
pub mod Entering
pub mod Entered
-- a loop over the clauses
pub mod Turns
-- the numbers: of a clause, of all
pub mod Tallied
pub mod Filling
-- a clause of key 1
pub mod Passing
-- the walks
pub mod Walking
-- what is proved about the definitions; a counted run is a run; any history
pub mod Laws
pub mod Runs
pub mod History
