-- Laws for the proofs of this room.
pub mod Followed
pub mod Kept
pub mod Laid
pub mod Block
pub mod Rows
pub mod Settled
pub mod Turns
pub mod Passed
pub mod Exits
