-- Which openings win, and the listing of them: what a reader believes of demand 3. An opening wins by formula's recursive truth alone.
use Prim.Native.Nat.{ℕ, zero, suc, ◌+◌, ◌≤◌, ◌<◌}
use Rattle.std.specs.Prelude.{◌≡◌, ◌↔◌, ◌⊎◌, Bool, false, cond, drop}
use Rattle.std.proofs.Math.Path.{refl}
use Rattle.std.proofs.Common.{ap, add-one, arith}
use Rattle.std.proofs.Math.Logic.{inl, inr}
use Rattle.std.proofs.Math.Bool.{true}
use mathlib.Core.List.{List, [], ◌∷◌, ◌++◌, append-nil}
use Rattle.std.proofs.Math.Decide.{ℕ_discrete}
use Rattle.std.specs.Int.Count.{ones}
use Rattle.words.specs.Laws.Bools.{look}
use Rattle.words.specs.Lists.{In, here, there}
use Rattle.formula.specs.Formula.{Formula, first_group}
use Rattle.formula.specs.Truth.{truth}
use Rattle.theory.specs.Witness.{group_of}
use Rattle.listing.specs.Opening.{values_of}
use Rattle.words.specs.Laws.Lists.{in_left, in_right, in_either}

-- [winner] the prefix after the first group is true with the opening's values
unfoldable pub wins : Formula → ℕ → Bool
wins F n = truth (drop (first_group F.prefix) F.prefix) F.clauses (values_of n (group_of F))

-- the winners below n, ascending
unfoldable pub winners : Formula → ℕ → List ℕ
winners F zero = []
winners F (suc n) = winners F n ++ cond (wins F n) (n ∷ []) []

-- [page.entry] each winner's number, and how many of its binary digits are 1
unfoldable pub entries : List ℕ → List ℕ
entries [] = []
entries (n ∷ ns) = n ∷ ones n ∷ entries ns

-- the listing of the openings below n
abbrev pub listing : Formula → ℕ → List ℕ
listing F n = entries (winners F n)

-- ---- the winners, said of their members: exactly those that win, ascending and so each once
pub data Ascending : ℕ → List ℕ → Type 0 where
  none : {n : ℕ} → Ascending n []
  more : {n m : ℕ} {ns : List ℕ} → n ≤ m → Ascending (suc m) ns → Ascending n (m ∷ ns)

ascending_snoc : (ns : List ℕ) (a n : ℕ) → Ascending a ns → a ≤ n → ((m : ℕ) → In m ns → m < n) → Ascending a (ns ++ n ∷ [])
ascending_snoc [] a n s h f = more h none
ascending_snoc (m ∷ ns) a n (more g s) h f = more g (ascending_snoc ns (suc m) n s (f m (here refl)) (λ x i. f x (there i)))

module _ (F : Formula) where
  winner_in : (n m : ℕ) → m < n → wins F m ≡ true → In m (winners F n)
  unfolding winners
  winner_in zero m h w = absurd (omega arith)
  winner_in (suc n) m h w = elim (ℕ_discrete m n) [
    | yes e ↦ in_right (winners F n) (rw (← e, w) (here refl))
    | no f ↦ in_left (cond (wins F n) (n ∷ []) []) (winner_in n m (omega arith) w)
  ]

  in_winner : (n m : ℕ) → In m (winners F n) → (m < n) × (wins F m ≡ true)
  unfolding winners
  in_winner (suc n) m i = go (wins F n) refl (in_either (winners F n) (cond (wins F n) (n ∷ []) []) i) (in_winner n m)
    where
      go : (b : Bool) → wins F n ≡ b → In m (winners F n) ⊎ In m (cond b (n ∷ []) []) → (In m (winners F n) → (m < n) × (wins F m ≡ true)) → (m < suc n) × (wins F m ≡ true)
      go b e (inl j) ih = let r = ih j in ((let h = r.0 in omega arith), r.1)
      go true e (inr (here z)) ih = ((omega arith), rw z e)
      go false e (inr x5) ih = elim x5 [ ]
      go true e (inr (there x9)) ih = elim x9 [ ]
  in_winner zero m i = elim i [ ]

  pub winners_exactly : (n m : ℕ) → In m (winners F n) ↔ ((m < n) × (wins F m ≡ true))
  winners_exactly n m = (in_winner n m, λ h. winner_in n m h.0 h.1)

  pub winners_ascending : (n : ℕ) → Ascending 0 (winners F n)
  unfolding winners
  winners_ascending zero = none
  winners_ascending (suc n) = elim (look (wins F n)) [
    | inl e ↦ rw e (ascending_snoc (winners F n) 0 n (winners_ascending n) (omega arith) (λ m i. (in_winner n m i).0))
    | inr e ↦ rw (e, append-nil (winners F n)) (winners_ascending n)
  ]

-- ---- the listing, opening by opening
entries_append : (xs ys : List ℕ) → entries (xs ++ ys) ≡ entries xs ++ entries ys
unfolding entries
entries_append [] ys = refl
entries_append (x ∷ xs) ys = ap (λ (ws : List ℕ). x ∷ ones x ∷ ws) (entries_append xs ys)

module _ (F : Formula) (n : ℕ) where
  pub listing_won : wins F n ≡ true → listing F (n + 1) ≡ listing F n ++ n ∷ ones n ∷ []
  unfolding winners entries
  listing_won e = rw (add-one, e) (entries_append (winners F n) (n ∷ []))

  pub listing_lost : wins F n ≡ false → listing F (n + 1) ≡ listing F n
  unfolding winners
  listing_lost e = rw (add-one, e, append-nil (winners F n))
