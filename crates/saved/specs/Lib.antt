-- A reader's numbers, and what each function promises.
pub mod Numbers
pub mod Promises
-- readers whose numbers fit their buffers
pub mod Within
