-- Rule after rule: where a search leads, and its reasons. To be read in this order.

-- where a number of steps lead
pub mod Run
-- what each function promises, and that it leaves one result
pub mod Promises
-- what a due rule names is there
pub mod Named
