-- The tests of a word, by its variable's place in the tables.
use Rattle.std.specs.Prelude.{◌≡◌, refl, Bool, true, false, cond, ℕ, List, [], ◌∷◌, ℤ, pos, nat_abs, get_or, Option, Some, None, MatchOption, option_map}
use Rattle.std.specs.Borrow.{Bor}
use Rattle.std.specs.List.{find}
use Rattle.std.proofs.Common.{eq-eqb, ne_eqb}
use Rattle.words.specs.declared.Literal.{Literal}
use Rattle.record.specs.Found.{literal, on_found}
use Rattle.choice.specs.First.{first_of}
use Rattle.choice.specs.Inner.Variables.{unassigned_in}

module _ (values : List ℕ) (q : ℤ) (v : ℕ) (is : v ≡ nat_abs q) where
  module _ (k : get_or values v 0 ≡ 0 → ⊥) where
    pub unassigned_past : unassigned_in values q ≡ None
    unfolding unassigned_in
    unassigned_past = rw (← is, ne_eqb (get_or values v 0) 0 k)

  module _ (z : get_or values v 0 ≡ 0) where
    pub unassigned_here : unassigned_in values q ≡ Some (literal (pos (nat_abs q)))
    unfolding unassigned_in
    unassigned_here = rw (← is, eq-eqb (get_or values v 0) 0 z)

-- the first that passes a test, as a literal
module _ (test : ℤ → Bool) where
  first_is : (xs : List ℤ) → first_of (λ q. cond (test q) (Some (literal q)) None) xs ≡ option_map literal (find test xs)
  unfolding first_of
  first_is [] = refl
  first_is (x ∷ xs) = go (test x) (first_is xs)
    where
      go : (b : Bool) → first_of (λ q. cond (test q) (Some (literal q)) None) xs ≡ option_map literal (find test xs)
          → on_found (cond b (Some (literal x)) None) Some (first_of (λ q. cond (test q) (Some (literal q)) None) xs) ≡ option_map literal (cond b (Some x) (find test xs))
      go true ih = refl
      go false ih = ih

  pub first_or_zero : (xs : List ℤ) (r : Option (Bor ℤ)) (l : Literal) → option_map (λ x. x.now) r ≡ find test xs → MatchOption r (l ≡ literal (pos 0)) (λ x. l ≡ literal x.now)
      → l ≡ literal (on_found (first_of (λ q. cond (test q) (Some (literal q)) None) xs) (λ w. w.0) (pos 0))
  first_or_zero xs None l e is = rw (first_is xs, ← e) is
  first_or_zero xs (Some x) l e is = rw (first_is xs, ← e) is
