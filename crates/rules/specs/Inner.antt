-- What functions say to each other: a reader of the definitions needs none of it.

-- the searches by the tables, and which tables are lent
pub mod Occurrences
pub mod Variables
-- what the tables say of the record
pub mod Tabled
-- what they mean of a clause
pub mod Meant
