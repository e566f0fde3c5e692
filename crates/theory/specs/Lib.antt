-- The rules in any order: sound, finite and never stuck. To be read in this order.

-- definitions: the record, the tests, the rules, where a search starts, what its last record shows
pub mod Record
pub mod Tests
pub mod Rules
pub mod Start
pub mod Witness
-- what is claimed of the rules in any order
pub mod Order
-- assignments that grow; what a test that is met says
pub mod Grown
pub mod Met
