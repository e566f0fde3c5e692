-- Where a byte leads, state by state, as equations: what the code's arms are set beside.
use Rattle.std.specs.Prelude.{◌≡◌, refl, Bool, true, cond, ℕ, eqb}
use Rattle.grammar.specs.Grammar.{feed, 'f', 'n', digit, nonzero, printable}
use Rattle.grammar.specs.declared.Place.{Place}
use Rattle.grammar.specs.declared.Place.TheVariants.{AtHead, AtFirst, AtLine}
use Rattle.grammar.specs.declared.Slot.{Slot}
use Rattle.grammar.specs.declared.Slot.TheVariants.{OfClause}
use Rattle.grammar.specs.declared.State.TheVariants.{Dead, Fresh, Before, Parted, InNumber, Remark, AfterC, AfterCn, AfterMinus}
use Rattle.grammar.specs.declared.Says.TheVariants.{Value}
use Rattle.grammar.specs.Machine.{silent, saying, between, parted, past, move}

module _ (b : ℕ) where
  pub move_dead : move Dead b ≡ silent Dead
  unfolding move
  move_dead = refl

  pub move_fresh : (more : Bool) → move (Fresh more) b ≡ between (AtLine more) b
  unfolding move
  move_fresh more = refl

  pub move_before : (k : Place) → move (Before k) b ≡ between k b
  unfolding move
  move_before k = refl

  pub move_parted : (k : Place) → move (Parted k) b ≡ silent (parted k b)
  unfolding move
  move_parted k = refl

  pub move_number : (f : Slot) → move (InNumber f) b ≡ cond (digit b) (silent (InNumber f)) (saying (Value f) (past f b))
  unfolding move
  move_number f = refl

  pub move_remark : move Remark b ≡ silent (cond (printable b) Remark (cond (eqb b feed) (Before AtHead) Dead))
  unfolding move
  move_remark = refl

  pub move_c : move AfterC b ≡ silent (cond (eqb b 'n') AfterCn Dead)
  unfolding move
  move_c = refl

  pub move_cn : move AfterCn b ≡ silent (cond (eqb b 'f') (Parted AtFirst) Dead)
  unfolding move
  move_cn = refl

  pub move_minus : move AfterMinus b ≡ silent (cond (nonzero b) (InNumber (OfClause true)) Dead)
  unfolding move
  move_minus = refl

pub ruleset moves = (move_dead, move_fresh, move_before, move_parted, move_number, move_remark, move_c, move_cn, move_minus)
