-- The grammar of a formula's text, and a machine that reads it byte by byte. To be read in this order.

-- the grammar: a tree, and which bytes spell it
pub mod Grammar
-- the machine that reads it; a tree as events and back; what is read
pub mod Machine
pub mod Events
pub mod Reads
-- a tree written as a text
pub mod Written
-- what each function promises, and that it leaves one answer
pub mod Promises
-- where a text stops being one
pub mod Misfit
