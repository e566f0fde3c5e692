-- What a call from another language answers and leaves.
pub mod Called
-- reading a text, whole and in pieces
pub mod Reading
-- that it is one result, and what a refused call leaves
pub mod Promises
pub mod Status
-- that a text in pieces is read as the whole one
pub mod Returned
