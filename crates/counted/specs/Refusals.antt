-- When a counted run is turned away: a run's rows, and in row 11 the buffers that it is lent besides.
use Rattle.std.specs.Prelude.{ℕ, ◌+◌, Bool, ◌||◌, List, ◌∷◌, ◌++◌, ltb, ℤ, length}
use Rattle.words.specs.Rows.{Row, row, refusal_of}
use Rattle.formula.specs.Limits.{Limits}
use Rattle.formula.specs.Formula.{variables_of, clause_count_of, literal_count_of}
use Rattle.formula.specs.Block.{rows}
use Rattle.session.specs.declared.Revision.{Revision}
use Rattle.session.specs.declared.Session.{Session}
use Rattle.memory.specs.Memory.{places}
use Rattle.memory.specs.Refusals.{short}
use Rattle.session.specs.Refusals.{of_session, of_run}
use Rattle.counted.specs.Lent.{Lent}

-- [counted.index] the places of the index that are written
abbrev pub index_places : List ℤ → ℕ
index_places b = variables_of b + literal_count_of b

-- [row.11] the trues or the opens have fewer than C places, or the index fewer than V+T
abbrev pub cramped : List ℤ → List ℕ → List ℕ → List ℕ → Bool
cramped b ts os ix = ltb (length ts) (clause_count_of b) || ltb (length os) (clause_count_of b) || ltb (length ix) (index_places b)

module _ (L : Limits) (s : Session) (b : List ℤ) (w : Lent) (seen : Revision) where
  -- [calls.counted]
  abbrev pub counted_rows : ℕ → List Row
  counted_rows budget =
      let m = w.memory in
      rows L b ++ row 11 (short b (places m) || cramped b w.trues w.opens w.index) ∷ of_session s b m seen ++ of_run s b m seen budget

  unfoldable pub counted_refusal : ℕ → ℕ
  counted_refusal budget = refusal_of (counted_rows budget)
