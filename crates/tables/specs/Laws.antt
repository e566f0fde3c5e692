-- What is proved about the definitions, for use in proofs.

-- by variable, and by literal
pub mod Levels
pub mod Blanks
