-- A reader's state between two bytes, and what one byte does to it and to the output.

-- what is kept of a text, event by event
pub mod Keep
-- one byte
pub mod Byte
-- what each public function promises, and that it leaves one answer
pub mod Promises
