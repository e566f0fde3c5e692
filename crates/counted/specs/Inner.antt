-- What functions say to each other: a reader of the promise needs none of it.

-- the index of the clauses by literal; the numbers of the clauses
pub mod Index
pub mod Numbers
-- a walk over one literal's clauses; what is kept from step to step; one literal more or less
pub mod Walk
pub mod State
pub mod Entry
-- the looks
pub mod Unit
pub mod Live
-- the prefix gone through; what Decide takes
pub mod Free
pub mod Decided
-- one step, and the search
pub mod Standing
pub mod Search
-- the guard
pub mod Guards
