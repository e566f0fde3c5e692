-- What goes out comes back in.
pub mod Back
