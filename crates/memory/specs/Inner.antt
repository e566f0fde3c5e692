-- What functions say to each other.
pub mod Reasons
