-- Laws for the proofs of this room.
pub mod Left
pub mod Taken
pub mod Viable
pub mod Written
