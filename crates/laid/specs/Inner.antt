-- What the code's functions say to each other, and what `lay` asks for.
pub mod Marks
pub mod Ready
