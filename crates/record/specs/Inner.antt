-- What functions say to each other: a reader of the definitions needs none of it.

-- tables by variable
pub mod Tables
-- checked input, and the buffers
pub mod Ready
pub mod Buffers
