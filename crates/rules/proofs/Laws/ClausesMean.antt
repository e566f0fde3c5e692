-- What the tests over the tables mean: the rules' tests of the same clauses. Each literal of a clause is false, true, unassigned existential or
-- unassigned universal, and its status says which; the rest goes by induction on the clause.
use Rattle.clauses.specs.Found.{unit_clause}
use Rattle.words.specs.declared.Literal.{Literal}
use Prim.Native.Nat.{ℕ, suc, ◌+◌, ◌≤◌, ◌<◌, min}
use Rattle.std.specs.Prelude.{◌≡◌, ◌⊎◌, Bool, not, ◌&&◌, ◌||◌, cond, ltb, get_or, Option, Some, None}
use Rattle.std.proofs.Math.Path.{refl, subst}
use Rattle.std.proofs.Common.{sym, ◌∙◌, ap, inl, inr, lt-ltb, le-ltb, ltb-true, ltb-false}
use Rattle.std.proofs.Math.Bool.{true, false, and-true, and-false, and_assoc}
use mathlib.Core.List.{List, [], ◌∷◌}
use native.Mathlib.Omega.{arith}
use Rattle.std.proofs.Math.IntN.{ℤ}
use Rattle.words.specs.Laws.Bools.{clash, look, and_l, and_r, or_fl, or_fr, to_false}
use Rattle.words.specs.Lists.{In, here, there, all, any}
use Rattle.words.specs.Laws.Lists.{any_i}
use Rattle.words.specs.Words.{eq_z, mem}
use Rattle.words.specs.Laws.Words.{eq_z_refl, eq_z_ne, mem_i, mem_e}
use Rattle.formula.specs.Formula.{level}
use Rattle.formula.specs.Block.{repeats}
use Rattle.theory.specs.Record.{Assignment}
use Rattle.theory.specs.Tests.{unassigned_existential, unassigned_universal, in_conflict, unit_on, untrue_of}
use Rattle.record.specs.Found.{on_found, literal}
use Rattle.clauses.specs.Lowest.{lowest}
use Rattle.rules.specs.Due.{candidate, is_unit, lowest_unit}
use Rattle.rules.specs.Inner.Tabled.{Sorted, as_false, as_true, as_existential, as_universal}
use Rattle.rules.specs.Inner.Occurrences.{true_by}
use Rattle.clauses.specs.Inner.Clauses.{keeps_by, conflict_by, unit_literal, stays_unit, sight_from, lowest_unit_by}
use Rattle.clauses.proofs.Looks.{unit_taken}
use Rattle.record.specs.Inner.Tables.{places}
use Rattle.rules.specs.Inner.Meant.{AllMeant}

pub ltb_min : (a b c : ℕ) → ltb a (min b c) ≡ (ltb a b && ltb a c)
ltb_min a b c = go (look (ltb a b)) (look (ltb a c))
  where
    go : (ltb a b ≡ true) ⊎ (ltb a b ≡ false) → (ltb a c ≡ true) ⊎ (ltb a c ≡ false) → ltb a (min b c) ≡ (ltb a b && ltb a c)
    go (inl h) (inl k) = let m : a < min b c = omega (arith, ltb-true a b h, ltb-true a c k) in rw (h, k) (lt-ltb a (min b c) m)
    go (inl h) (inr k) = let m : min b c ≤ a = omega (arith, ltb-false a c k) in rw (h, k) (le-ltb a (min b c) m)
    go (inr h) k = let m : min b c ≤ a = omega (arith, ltb-false a b h) in rw h (le-ltb a (min b c) m)

-- tests that agree on a list's elements find the same one
module _ {A : Type 0} (f g : A → Bool) where
  lowest_same : (n : ℕ) (m : List A) → ((x : A) → In x m → f x ≡ g x) → lowest f n m ≡ lowest g n m
  unfolding lowest
  lowest_same n [] h = refl
  lowest_same n (x ∷ m) h = rw (h x (here refl), lowest_same (suc n) m (λ y i. h y (there i)))

-- p is the prefix, ρ says which literals are true, st is a literal's status
module _ (p : List ℤ) (ρ : Assignment) (st : ℤ → ℕ) where
  conflict_means : (C : List ℤ) → ((x : ℤ) → In x C → Sorted p ρ st x) → conflict_by st C ≡ in_conflict p ρ C
  unfolding conflict_by keeps_by in_conflict any
  conflict_means [] h = refl
  conflict_means (x ∷ C) h = go (h x (here refl)) (conflict_means C (λ y i. h y (there i)))
    where
      go : Sorted p ρ st x → conflict_by st C ≡ in_conflict p ρ C → conflict_by st (x ∷ C) ≡ in_conflict p ρ (x ∷ C)
      go (as_false s t e u) ih = rw (s, t, e) ih
      go (as_true s t) ih = rw (s, t)
      go (as_existential s t e u) ih = rw (s, t, e) (sym (and-false (not (any ρ C))))
      go (as_universal s t e u) ih = rw (s, t, e) ih

  pub lowest_conflict_means : (m : List (List ℤ)) → ((C : List ℤ) → In C m → (x : ℤ) → In x C → Sorted p ρ st x) → lowest (conflict_by st) 0 m ≡ lowest (in_conflict p ρ) 0 m
  lowest_conflict_means m h = lowest_same (conflict_by st) (in_conflict p ρ) 0 m (λ C i. conflict_means C (h C i))

  -- a status says whether its literal is true
  pub status_true : (x : ℤ) → Sorted p ρ st x → true_by st x ≡ ρ x
  status_true x (as_false s t e u) = rw (s, t)
  status_true x (as_true s t) = rw (s, t)
  status_true x (as_existential s t e u) = rw (s, t)
  status_true x (as_universal s t e u) = rw (s, t)

  any_true : (C : List ℤ) → ((x : ℤ) → In x C → Sorted p ρ st x) → any (true_by st) C ≡ any ρ C
  unfolding any
  any_true [] h = refl
  any_true (x ∷ C) h = rw (status_true x (h x (here refl)), any_true C (λ y i. h y (there i)))

  pub untrue_means : (m : List (List ℤ)) → ((C : List ℤ) → In C m → (x : ℤ) → In x C → Sorted p ρ st x) → untrue_of (true_by st) m ≡ untrue_of ρ m
  unfolding untrue_of
  untrue_means [] h = refl
  untrue_means (C ∷ m) h = rw (any_true C (h C (here refl)), untrue_means m (λ D i. h D (there i)))

-- and lev its level
module _ (p : List ℤ) (ρ : Assignment) (st lev : ℤ → ℕ) where
  -- every unassigned existential literal is l; every unassigned universal one is at a higher level than l
  abbrev only_existential : ℤ → List ℤ → Bool
  only_existential l C = all (λ x. not (unassigned_existential p ρ x) || eq_z x l) C

  abbrev higher_universal : ℤ → List ℤ → Bool
  higher_universal l C = all (λ x. not (unassigned_universal p ρ x) || ltb (level p l) (level p x)) C

  stays_means : (l : ℤ) → lev l ≡ level p l → (above : ℕ) (C : List ℤ) → mem l C ≡ false → AllMeant p ρ st lev C → stays_unit st lev l above C ≡ (not (any ρ C) && only_existential l C && (ltb (level p l) above && higher_universal l C))
  unfolding stays_unit any all
  stays_means l q above [] o h = rw q (sym (and-true (ltb (level p l) above)))
  stays_means l q above (x ∷ C) o h = go (h x (here refl)).sorted (h x (here refl)).at (λ n. stays_means l q n C later (λ y i. h y (there i)))
    where
      later : mem l C ≡ false
      later = to_false (mem l C) (λ t. clash (mem_i (there (mem_e l C t))) o)

      other : eq_z x l ≡ false
      other = eq_z_ne (λ e. clash (mem_i (here {xs = C} (sym e))) o)

      none : (a b : Bool) → false ≡ (not a && (false && b) && (ltb (level p l) above && higher_universal l C))
      none true b = refl
      none false b = refl

      go : Sorted p ρ st x → lev x ≡ level p x → ((n : ℕ) → stays_unit st lev l n C ≡ (not (any ρ C) && only_existential l C && (ltb (level p l) n && higher_universal l C))) → stays_unit st lev l above (x ∷ C) ≡ (not (any ρ (x ∷ C)) && only_existential l (x ∷ C) && (ltb (level p l) above && higher_universal l (x ∷ C)))
      go (as_false s t e u) v ih = rw (s, t, e, u) (ih above)
      go (as_true s t) v ih = rw (s, t)
      go (as_existential s t e u) v ih = rw (s, t, e, u, other) (none (any ρ C) (only_existential l C))
      go (as_universal s t e u) v ih = rw (s, t, e, u, v, ih (min above (level p x)), ltb_min (level p l) above (level p x)) (ap (λ b. not (any ρ C) && only_existential l C && b) (and_assoc (ltb (level p l) above) (ltb (level p l) (level p x)) (higher_universal l C)))

  -- the unit test with the universal literals before the clause, down to the level `above`
  abbrev unit_in : ℕ → List ℤ → ℤ → Bool
  unit_in above C l =
      not (any ρ C) && any (unassigned_existential p ρ) C && only_existential l C && (ltb (level p l) above && higher_universal l C)

  abbrev taken : Bool → ℤ → Option Literal
  taken b l = cond b (Some (literal l)) None

  -- with any candidate z
  abbrev stated : ℕ → ℤ → List ℤ → ℤ → Type 0
  stated above x C z = unit_literal (sight_from st lev above (x ∷ C)) ≡ taken (unit_in above (x ∷ C) z) z

  from_means : (above : ℕ) (C : List ℤ) → repeats C ≡ false → AllMeant p ρ st lev C → unit_literal (sight_from st lev above C) ≡ taken (unit_in above C (candidate p ρ C)) (candidate p ρ C)
  unfolding sight_from candidate any all repeats
  from_means above [] o h = refl
  from_means above (x ∷ C) o h = go (h x (here refl)).sorted (h x (here refl)).at (λ n. from_means n C (or_fr (mem x C) (repeats C) o) (λ y i. h y (there i)))
    where
      l : ℤ
      l = candidate p ρ C

      go : Sorted p ρ st x → lev x ≡ level p x → ((n : ℕ) → unit_literal (sight_from st lev n C) ≡ taken (unit_in n C l) l) → stated above x C (candidate p ρ (x ∷ C))
      go (as_false s t e u) v ih = let k : candidate p ρ (x ∷ C) ≡ l = rw e in let r : stated above x C l = rw (s, t, e, u) (ih above) in subst (stated above x C) (sym k) r
      go (as_true s t) v ih = rw (s, t)
      go (as_existential s t e u) v ih = let k : candidate p ρ (x ∷ C) ≡ x = rw e in let r : stated above x C x = rw (s, t, e, u, eq_z_refl x, stays_means x v above C (or_fl (mem x C) (repeats C) o) (λ y i. h y (there i))) (unit_taken (not (any ρ C) && only_existential x C && (ltb (level p x) above && higher_universal x C)) x ∙ ap (λ b. taken (b && only_existential x C && (ltb (level p x) above && higher_universal x C)) x) (sym (and-true (not (any ρ C))))) in subst (stated above x C) (sym k) r
      go (as_universal s t e u) v ih = let k : candidate p ρ (x ∷ C) ≡ l = rw e in let r : stated above x C l = rw (s, t, e, u, v, ih (min above (level p x)), ltb_min (level p l) above (level p x)) (ap (λ b. taken (not (any ρ C) && any (unassigned_existential p ρ) C && only_existential l C && b) l) (and_assoc (ltb (level p l) above) (ltb (level p l) (level p x)) (higher_universal l C))) in subst (stated above x C) (sym k) r

  -- the candidate is the clause's, if it has an unassigned existential literal
  candidate_in : (C : List ℤ) → any (unassigned_existential p ρ) C ≡ true → In (candidate p ρ C) C × (unassigned_existential p ρ (candidate p ρ C) ≡ true)
  unfolding candidate any
  candidate_in [] h = clash h refl
  candidate_in (x ∷ C) h = go (look (unassigned_existential p ρ x)) (candidate_in C)
    where
      go : (unassigned_existential p ρ x ≡ true) ⊎ (unassigned_existential p ρ x ≡ false) → (any (unassigned_existential p ρ) C ≡ true → In (candidate p ρ C) C × (unassigned_existential p ρ (candidate p ρ C) ≡ true)) → In (candidate p ρ (x ∷ C)) (x ∷ C) × (unassigned_existential p ρ (candidate p ρ (x ∷ C)) ≡ true)
      go (inl e) ih = rw e (here refl, e)
      go (inr e) ih = let r = ih (rw e at h) in rw e (there r.0, r.1)

  unit_in_lem : (C : List ℤ) → AllMeant p ρ st lev C → unit_in places C (candidate p ρ C) ≡ is_unit p ρ C
  unfolding unit_on
  unit_in_lem C h = go (look (any (unassigned_existential p ρ) C))
    where
      l : ℤ
      l = candidate p ρ C

      go : (any (unassigned_existential p ρ) C ≡ true) ⊎ (any (unassigned_existential p ρ) C ≡ false) → unit_in places C l ≡ is_unit p ρ C
      go (inl e) = let r = candidate_in C e in rw (e, mem_i r.0, r.1, lt-ltb (level p l) places (h l r.0).low)
      go (inr e) =
          let none = to_false (mem l C && unassigned_existential p ρ l) (λ b. clash (any_i (unassigned_existential p ρ) (mem_e l C (and_l (mem l C) (unassigned_existential p ρ l) b)) (and_r (mem l C) (unassigned_existential p ρ l) b)) e) in
          rw (e, none, and-false (not (any ρ C)))

  unit_means : (C : List ℤ) → repeats C ≡ false → AllMeant p ρ st lev C → unit_literal (sight_from st lev places C) ≡ taken (is_unit p ρ C) (candidate p ρ C)
  unit_means C o h = from_means places C o h ∙ ap (λ b. taken b (candidate p ρ C)) (unit_in_lem C h)

  -- the lowest unit clause. G is the candidate by the clause's number
  lowest_from : (n : ℕ) (m : List (List ℤ)) → any repeats m ≡ false → ((C : List ℤ) → In C m → AllMeant p ρ st lev C) → (G : ℕ → ℤ) → ((i : ℕ) → G (n + i) ≡ candidate p ρ (get_or m i [])) → lowest_unit_by st lev n m ≡ on_found (lowest (is_unit p ρ) n m) (λ c. Some (unit_clause (literal (G c)) c)) None
  unfolding lowest_unit_by lowest any
  lowest_from n [] o h G e = refl
  lowest_from n (C ∷ m) o h G e = rw (unit_means C (or_fl (repeats C) (any repeats m) o) (h C (here refl))) (go (is_unit p ρ C) (lowest_from (suc n) m (or_fr (repeats C) (any repeats m) o) (λ D i. h D (there i)) G (λ i. let z : suc n + i ≡ n + suc i = omega arith in rw z (e (suc i)))))
    where
      first : G n ≡ candidate p ρ C
      first = let z : n + 0 ≡ n = omega arith in rw z at (e 0)

      go : (b : Bool) → lowest_unit_by st lev (suc n) m ≡ on_found (lowest (is_unit p ρ) (suc n) m) (λ c. Some (unit_clause (literal (G c)) c)) None → on_found (taken b (candidate p ρ C)) (λ x. Some (unit_clause x n)) (lowest_unit_by st lev (suc n) m) ≡ on_found (cond b (Some n) (lowest (is_unit p ρ) (suc n) m)) (λ c. Some (unit_clause (literal (G c)) c)) None
      go true ih = ap (λ x. Some (unit_clause (literal x) n)) (sym first)
      go false ih = ih

  pub lowest_unit_means : (m : List (List ℤ)) → any repeats m ≡ false → ((C : List ℤ) → In C m → AllMeant p ρ st lev C) → lowest_unit_by st lev 0 m ≡ lowest_unit p ρ m
  unfolding lowest_unit
  lowest_unit_means m o h = lowest_from 0 m o h (λ c. candidate p ρ (get_or m c [])) (λ i. let z : 0 + i ≡ i = omega arith in rw z)
