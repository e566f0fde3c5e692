-- The test for a monotone variable, by its place in the tables.
use Rattle.std.specs.Prelude.{◌≡◌, ℕ, List, ℤ, nat_abs, get_or, None}
use Rattle.std.proofs.Common.{eq-eqb, ne_eqb}
use Rattle.rules.specs.Inner.Variables.{signs_in, by_signs, monotone_in}
use Rattle.rules.specs.declared.by_literal.Signs.{Signs}

module _ (values occurs : List ℕ) (q : ℤ) (v : ℕ) (is : v ≡ nat_abs q) where
  pub monotone_set : (get_or values v 0 ≡ 0 → ⊥) → None ≡ monotone_in values occurs q
  unfolding monotone_in
  monotone_set k = rw (← is, ne_eqb (get_or values v 0) 0 k)

  pub monotone_free : get_or values v 0 ≡ 0 → {s : Signs} → s ≡ signs_in occurs v → by_signs s q ≡ monotone_in values occurs q
  unfolding monotone_in
  monotone_free z e = rw (e, ← is, eq-eqb (get_or values v 0) 0 z)
