-- What functions say to each other: a reader of the definitions needs none of it.

-- the searches by the tables, and the lowest level of an unassigned variable
pub mod Variables
pub mod Lowest
