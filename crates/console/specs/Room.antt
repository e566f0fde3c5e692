-- The console's room, and the largest number of 64 bits, as src/room.rt has them.
use Rattle.std.specs.Prelude.{ℕ}

-- a line, a part of the input, and an answer
abbrev pub line_bytes : ℕ
line_bytes = 262144

abbrev pub part_bytes : ℕ
part_bytes = 65536

abbrev pub answer_bytes : ℕ
answer_bytes = 524288

abbrev pub long_most : ℕ
long_most = 18446744073709551615
