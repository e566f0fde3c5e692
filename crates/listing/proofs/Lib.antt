-- What only the proofs of this crate need.
pub mod Groups
pub mod Guards
pub mod Pages
-- what is proved about the definitions
pub mod Laws
-- which number a refused page is given, and what it leaves; an accepted page; any list of pages; all openings together; the one that an ended session shows
pub mod Refused
pub mod Accepted
pub mod AllPages
pub mod Covers
pub mod Found
-- a page's searches are runs, and what the work record held before doesn't matter
pub mod AsRun
pub mod AnyWork
