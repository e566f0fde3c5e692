-- What is proved of the rules. To be read in this order.

-- what is proved about the definitions on the way
pub mod Laws
-- the theorems, and why the rules are as they are
pub mod Theorem
pub mod Ended
pub mod Examples
