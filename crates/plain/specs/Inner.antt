-- What functions say to each other.
pub mod Met
pub mod Tried
