-- What Decide takes, by the tables; and what one rule applied asks for.
use Rattle.std.specs.Prelude.{ℕ, ◌≡◌, Bool, true, cond, not, ◌&&◌, List, eqb, leb, ℤ, nat_abs, get_or, take, Option, Some, None}
use Rattle.words.specs.declared.Literal.{Literal}
use Rattle.formula.specs.Limits.{limits}
use Rattle.formula.specs.Formula.{prefix_of, formula_of}
use Rattle.theory.specs.Record.{among}
use Rattle.record.specs.Found.{literal, on_found}
use Rattle.choice.specs.First.{first_of}
use Rattle.rules.specs.Due.{due}
use Rattle.choice.specs.Preferred.{decides}
use Rattle.record.specs.Trail.{Trail, record_of}
use Rattle.record.specs.Inner.Ready.{OnBlock}
use Rattle.tables.specs.Inner.Levels.{Levels}
use Rattle.record.specs.Inner.Tables.{Quantifiers}
use Rattle.rules.specs.Inner.Tabled.{Sorts}
use Rattle.record.specs.declared.rule.Rule.{Rule}
use Rattle.counted.specs.Inner.Free.{free_at}

module _ (n : ℕ) (statuses levels : List ℕ) (lowest : ℕ) where
  -- a variable is one of n, unassigned, and of no higher level than the lowest
  unfoldable pub open_at : ℕ → Bool
  open_at v = not (eqb v 0) && leb v n && (free_at statuses v && leb (get_or levels v 0) lowest)

  unfoldable pub picked_at : ℤ → Option Literal
  picked_at l = cond (open_at (nat_abs l)) (Some (literal l)) None

  -- the first open literal of a list, else the one given
  unfoldable pub preferred_at : List ℤ → Literal → Literal
  preferred_at list first = on_found (first_of picked_at list) (λ l. l) first

-- the rule that is due is to be applied: at Decide the statuses are those of the record
pub record Enacting (b : List ℤ) (t : Trail) (n : ℕ) (rule : Rule) (levels quantifiers statuses : List ℕ) : Type 0 where
  pub on : OnBlock limits b t n
  pub is : rule ≡ due (formula_of b) (record_of t n)
  pub told : Levels (prefix_of b) levels
  pub quantified : Quantifiers (prefix_of b) quantifiers
  pub sorted : decides rule ≡ true → Sorts (prefix_of b) (among (take n t.lits)) statuses
