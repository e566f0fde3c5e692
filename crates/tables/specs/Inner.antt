-- What functions say to each other: a reader of the definitions needs none of it.

-- by variable, and by literal
pub mod Levels
pub mod ByLiteral
