-- What is lent beside the block: the record's buffers and the reasons, which of them are turned away, and what a rule leaves in the reasons.
-- To be read in this order.

-- what is lent; a state as a number; why an entry was made
pub mod Memory
pub mod States
pub mod Reasons
-- rows 11 and 12
pub mod Refusals
-- what each function promises, and that it leaves one result
pub mod Promises
-- what functions say to each other
pub mod Inner
