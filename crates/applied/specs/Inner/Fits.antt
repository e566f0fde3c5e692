-- What a rule asks of the record: a place to write to, and a literal that has an opposite.
use Rattle.std.specs.Prelude.{ℕ, ◌≤◌, ◌<◌, List, ℤ, pos, nat_abs, length, get_or}
use Rattle.record.specs.Trail.{Trail}
use Rattle.record.specs.Inner.Ready.{Room}
use Rattle.record.specs.declared.rule.Rule.{Rule}
use Rattle.applied.specs.Apply.{move_of}
use Rattle.applied.specs.declared.moves.Move.{Move}
use Rattle.applied.specs.declared.moves.Move.TheVariants.{Append, Flip, End}

-- a record of n entries can be cut at i: the place is in it, and its literal has an opposite
pub record Cuttable (i n : ℕ) (t : Trail) : Type 0 where
  pub inside : i < n
  pub room : Room n t
  pub small : nat_abs (get_or t.lits i (pos 0)) ≤ 2147483647

-- a move has a place to write to: a cut is inside the record, and an entry more is inside the buffers
abbrev pub MoveFits : List ℤ → ℕ → Move → Type 0
MoveFits p n (Append k x) = n < length p
MoveFits p n (Flip i) = i < n
MoveFits p n (End t) = n ≤ n

-- and so a rule, whatever the proposal
abbrev pub Fitting : List ℤ → ℕ → Rule → Type 0
Fitting p n rule = MoveFits p n (move_of p rule (pos 0))
