-- What the console's functions say to each other.

-- the room
pub mod Room
-- the number that a word stands for
pub mod Numbers
