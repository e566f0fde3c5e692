-- What the code's functions say to each other; a reader of the promises needs none of it.
pub mod Ending
