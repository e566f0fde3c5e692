-- The listing of openings: what an opening is, and what a page answers and leaves, for every input. To be read in this order.

-- an opening, its search, and when it wins; a page
pub mod Opening
pub mod Page
-- what a page promises, and that it leaves one result
pub mod Promises
-- which number a refused page is given, and what it leaves
pub mod Rows
-- what is claimed of an accepted page; the openings that win, and the listing of them
pub mod Claims
pub mod Wins
-- any list of pages, and what is claimed of it; the opening that an ended session shows
pub mod Pages
pub mod Found
-- values put before values
pub mod Onto
-- what functions say to each other
pub mod Inner
