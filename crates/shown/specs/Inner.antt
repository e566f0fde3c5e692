-- What the functions say to each other; a reader of the promise needs none of it.
pub mod Conflict
pub mod Writing
