-- Signed words as literals, the lists that every room speaks of, and what every call has in common.

-- words and lists
pub mod Words
pub mod Lists
-- a table of refusals; what a call answers and leaves, and that there is only one
pub mod Rows
pub mod Outcomes
-- what each function promises, and that it leaves one answer
pub mod Promises
-- what is proved of them
pub mod Laws
