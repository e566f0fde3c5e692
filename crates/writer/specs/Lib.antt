-- A block written as a text: the text, its refusals, and what the one public function promises.
pub mod Write
pub mod Promises
-- what functions say to each other
pub mod Inner
