-- What is proved about the definitions, for use in proofs.
pub mod Opened
pub mod Noted
pub mod BadReasons
