-- Laws for the proofs of this room.
pub mod Groups
pub mod Back
pub mod Writing
pub mod Lengths
pub mod WriteExits
