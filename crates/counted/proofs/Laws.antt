-- What is proved about the definitions, for use in proofs. To be read in this order.

-- counts, and what a clause's key says of the rules' tests
pub mod Counts
pub mod Keys
-- the index; the numbers, and a walk that moves them
pub mod Index
pub mod Numbers
pub mod Walk
-- what the index says of a literal; what is kept from step to step; one literal more or less
pub mod Held
pub mod State
pub mod Statuses
pub mod Entry
-- the looks
pub mod Unit
pub mod Lowest
pub mod Live
-- what joins the steps
pub mod Steps
-- checked input; the prefix gone through
pub mod Checked
pub mod Free
-- the due rule; what Decide takes
pub mod Due
pub mod Decided
-- one step, and the search
pub mod Search
pub mod Advance
pub mod Going
pub mod Start
-- the guard, and the ways out
pub mod Guards
pub mod Exits
