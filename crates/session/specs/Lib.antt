-- Open, step and run: what each answers and leaves, for every input. To be read in this order.

-- when a call is refused; what it answers and leaves
pub mod Refusals
pub mod Outcome
pub mod Run
-- what each function promises, and that it leaves one result
pub mod Promises
-- which number a refused call is given, and what it leaves
pub mod Rows
pub mod Refused
-- an accepted opening, an accepted step, a run as steps by hand
pub mod Opened
pub mod Stepped
pub mod Calls
pub mod RunSteps
-- reasons influence nothing else
pub mod Apart
-- any history of calls, what its reasons say, and what its end shows
pub mod Forced
pub mod History
pub mod Witnessed
-- what functions say to each other; what is proved of all these
pub mod Inner
pub mod Laws
