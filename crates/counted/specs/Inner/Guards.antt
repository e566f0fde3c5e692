-- Which numbers of a run's table are those of the block's rows or of row 11: the ones that come before what a counted run asks in row 11 besides.
use Rattle.std.specs.Prelude.{ℕ, Bool, not, ◌&&◌, ◌||◌, eqb, ltb}

abbrev pub early : ℕ → Bool
early n = eqb n 23 || (not (eqb n 0) && ltb n 12)
