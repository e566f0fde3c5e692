-- What the functions of a call say to each other.
pub mod Guards
