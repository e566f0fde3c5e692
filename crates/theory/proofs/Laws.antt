-- What is proved about the definitions, for the theorems' proofs and for the crates above. To be read in this order.

-- a variable's question, assignments, the value of a formula, what the tests say
pub mod Asked
pub mod Assignment
pub mod Value
pub mod Tested
-- the laws: decide; conflict, leaf; unit, monotone
pub mod Decide
pub mod Conflict
pub mod Forced
pub mod Monotone
-- sound: what every record on a path keeps
pub mod Invariant
-- finite: what a rule does to a record, the work that it lowers
pub mod Moves
pub mod Work
-- never stuck: the last decision, the first unassigned variable
pub mod First
-- what an ended record shows: its entries at outer levels, the values of the first group
pub mod Below
pub mod Group
pub mod Completed
