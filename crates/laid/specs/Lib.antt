-- The block of a text, laid out from the parts that stand in the output.

-- the completed prefix, the header, the block
pub mod Block
-- what the one public function promises, and that it leaves one output
pub mod Promises
-- what functions say to each other
pub mod Inner
-- what is proved for use in proofs
pub mod Laws
