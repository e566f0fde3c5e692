-- The clauses along the list of their ends: one more clause, and none.
use Rattle.std.specs.Prelude.{◌≡◌, List, [], ◌∷◌, ℤ, pos, nat_abs, length, take, get_or}
use Rattle.std.proofs.Math.Path.{refl}
use Rattle.std.proofs.Common.{sym, ◌∙◌, ap, le_of_lt}
use Prim.Native.Nat.{ℕ, zero, suc, ◌+◌, ◌-◌, ◌≤◌, ◌<◌}
use Rattle.std.proofs.Math.Numerals.{add-one}
use Rattle.std.proofs.Math.ListN.{drop}
use Rattle.words.specs.Lists.{In, here, there}
use Rattle.words.specs.Laws.Lists.{next, ended, in_take, in_drop}
use Rattle.formula.specs.Formula.{clauses_from}
use Rattle.formula.specs.Laws.Ends.{clause_start}

module _ (ls : List ℤ) (from : ℕ) (es : List ℤ) (i : ℕ) where
  pub clauses_at : i < length es → clauses_from ls from (drop i es) ≡ take (nat_abs (get_or es i (pos 0)) - from) (drop from ls) ∷ clauses_from ls (nat_abs (get_or es i (pos 0))) (drop (i + 1) es)
  unfolding clauses_from
  clauses_at h = rw (next es i (pos 0) h)

  pub clauses_ended : length es ≤ i → clauses_from ls from (drop i es) ≡ []
  unfolding clauses_from
  clauses_ended h = rw (ended es i h)

-- as many clauses as ends, and every literal of a clause is one of the literal words
pub clauses_length : (ls : List ℤ) (from : ℕ) (es : List ℤ) → length (clauses_from ls from es) ≡ length es
unfolding clauses_from
clauses_length ls from [] = refl
clauses_length ls from (e ∷ es) = ap suc (clauses_length ls (nat_abs e) es)

pub clauses_in : (ls : List ℤ) (from : ℕ) (es : List ℤ) {c : List ℤ} {l : ℤ} → In c (clauses_from ls from es) → In l c → In l ls
unfolding clauses_from
clauses_in ls from (e ∷ es) (here q) i = in_drop from ls (in_take (nat_abs e - from) (drop from ls) (rw q at i))
clauses_in ls from (e ∷ es) (there m) i = clauses_in ls (nat_abs e) es m i
clauses_in ls from [] {c = c} {l = l} x'' i = elim x'' [ ]

-- the clauses from the c-th on, and the c-th
module _ (ls es : List ℤ) where
  split : (c : ℕ) → c < length es → drop c (clauses_from ls 0 es) ≡ clauses_from ls (clause_start es c) (drop c es)
      → get_or (clauses_from ls 0 es) c [] ∷ drop (c + 1) (clauses_from ls 0 es)
      ≡ take (nat_abs (get_or es c (pos 0)) - clause_start es c) (drop (clause_start es c) ls) ∷ clauses_from ls (nat_abs (get_or es c (pos 0))) (drop (c + 1) es)
  split c h e = sym (next (clauses_from ls 0 es) c [] (rw (clauses_length ls 0 es) h)) ∙ e ∙ clauses_at ls (clause_start es c) es c h

  pub clauses_from_lem : (c : ℕ) → c ≤ length es → drop c (clauses_from ls 0 es) ≡ clauses_from ls (clause_start es c) (drop c es)
  unfolding clause_start
  clauses_from_lem zero h = refl
  clauses_from_lem (suc c) h =
      let e = split c h (clauses_from_lem c (le_of_lt h)) in
      let tails : drop (c + 1) (clauses_from ls 0 es) ≡ clauses_from ls (nat_abs (get_or es c (pos 0))) (drop (c + 1) es) = cc in
      rw add-one at tails
