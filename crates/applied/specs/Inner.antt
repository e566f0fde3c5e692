-- What functions say to each other: a reader of the definitions needs none of it.

-- a place to write to
pub mod Fits
