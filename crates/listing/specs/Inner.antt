-- What the functions of a page say to each other.
pub mod Pages
