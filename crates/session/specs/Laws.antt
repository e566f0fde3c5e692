-- What is proved about the definitions, for use in proofs.
pub mod Accepted
pub mod Each
pub mod Sound
pub mod Forced
pub mod Exits
