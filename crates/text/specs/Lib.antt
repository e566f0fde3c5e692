-- The text of a formula: the block that it gives, and a reader that takes it byte by byte.

-- what a tree gives: refusals, the block, the whole call
pub mod Tree
-- the reader in pieces
pub mod Pieces
-- what each public function promises, and that it leaves one answer
pub mod Promises
-- what functions say to each other
pub mod Inner
-- what is claimed of an accepted text
pub mod Accepted
-- what a refused call of any answer leaves
pub mod Refused
