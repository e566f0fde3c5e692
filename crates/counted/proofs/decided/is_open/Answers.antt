-- The four tests in turn; a variable of the prefix has a place.
use Rattle.std.specs.Prelude.{◌≡◌, true, false}
use Rattle.std.proofs.Common.{arith, eq-eqb, inl, inr, le-leb, ne_eqb}
use Rattle.std.proofs.lemmas.Bool.{lt-leb}
use Rattle.formula.specs.Laws.Limits.{variables_are}
use Rattle.counted.specs.Inner.Decided.{open_at}
use Rattle.counted.proofs.decided.is_open.Goals as goal
use Rattle.counted.proofs.decided.is_open.Goals.{then-v-ne0, else-v-ne0, then-v-n, else-v-n}

pub overflow_add-v : goal.overflow_add-v
overflow_add-v c = omega (arith, variables_are, c.if-v-n.true.1)

pub bounds-statuses-v : goal.bounds-statuses-v
bounds-statuses-v c = omega (arith, variables_are, c.if-v-n.true.1)

pub returns-then-statuses-v-ge2 : goal.returns-then-statuses-v-ge2
unfolding open_at
returns-then-statuses-v-ge2 c =
    elim c.if-v-n.branch [
      | then-v-n w ↦ rw (ne_eqb _ _ w.if-v-n.true.0, le-leb _ _ w.if-v-n.true.1, ← w.value-is, c.if-statuses-v-ge2.true)
      | else-v-n w ↦ elim w.if-v-n.either [
        | inl e ↦ elim c.if-v-ne0.branch [
          | then-v-ne0 u ↦ let z : true ≡ false = cc in absurd cc
          | else-v-ne0 u ↦ absurd (e.0 u.if-v-ne0.false)
        ]
        | inr z ↦ elim c.if-v-ne0.branch [
          | then-v-ne0 u ↦ absurd (u.if-v-ne0.true z)
          | else-v-ne0 u ↦ let y : true ≡ false = cc in absurd cc
        ]
      ]
    ]

pub returns-else-statuses-v-ge2 : goal.returns-else-statuses-v-ge2
unfolding open_at
returns-else-statuses-v-ge2 c =
    elim c.if-v-n.branch [
      | then-v-n w ↦ rw (ne_eqb _ _ w.if-v-n.true.0, le-leb _ _ w.if-v-n.true.1, ← w.value-is, c.if-statuses-v-ge2.false)
      | else-v-n w ↦ elim w.if-v-n.either [
        | inl e ↦ rw (ne_eqb _ _ e.0, lt-leb _ _ e.1, c.if-statuses-v-ge2.false)
        | inr z ↦ rw (eq-eqb _ _ z, c.if-statuses-v-ge2.false)
      ]
    ]
