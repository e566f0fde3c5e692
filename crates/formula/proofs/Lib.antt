-- What only the proofs of this crate need.
pub mod Rows
pub mod Raised
pub mod Seen
pub mod Stamped
pub mod EachClause
pub mod Looked
pub mod Whole
