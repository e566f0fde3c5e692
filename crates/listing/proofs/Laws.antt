-- What is proved about the definitions, for use in proofs. To be read in this order.

-- a search depends on its record alone
pub mod Alike
-- an opening's values, where its search starts, where it ends
pub mod Values
pub mod Start
pub mod Searched
-- a page: which places of the work record it leaves, what it writes
pub mod Beyond
pub mod Sheets
