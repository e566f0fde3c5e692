-- What never-stuck needs: the last entry of a kind, or there is none; the first unassigned word of a prefix, which is open, since those
-- before it are assigned and levels never fall after it.
use Rattle.std.specs.Prelude.{◌≡◌, refl, ◌⊎◌, true, false, List, [], ◌∷◌, ◌++◌, ℕ, eqb, ℤ, nat_abs}
use Rattle.std.proofs.Common.{sym, ◌∙◌, ap, subst, inl, inr, arith}
use Rattle.words.specs.Laws.Bools.{clash, look, and_l, and_r, and_i, not_f, eqb_eq}
use Rattle.words.specs.Lists.{In, here, there, all}
use Rattle.words.specs.Laws.Lists.{in_middle}
use Rattle.formula.specs.Formula.{Formula}
use Rattle.formula.specs.Proper.{Proper}
use Rattle.formula.specs.Laws.Prefix.{stands_i, level_var, Ordered, more, ordered}
use Rattle.theory.specs.Record.{entry, Record, Assignment, assigned, without}
use Rattle.theory.specs.Tests.{is_open, all_assigned}
use Rattle.theory.proofs.Laws.Assignment.{assigned_var}
use Rattle.theory.proofs.Laws.Tested.{open_i}
use Rattle.theory.specs.Met.{Lowest}
use Rattle.theory.specs.Met.{Last, First}

pub last : (k : ℕ) (r : Record) → (without k r ≡ true) ⊎ Last k r
unfolding without all
last k [] = inl refl
last k (e ∷ r) = elim (last k r) [
  | inr s ↦ inr (record { before = e ∷ s.before; literal = s.literal; later = s.later; whole = ap (λ (t : Record). e ∷ t) s.whole; none_later = s.none_later })
  | inl h ↦ elim (look (eqb e.kind k)) [
    | inl b ↦ inr (record { before = []; literal = e.literal; later = r; whole = ap (λ (j : ℕ). entry j e.literal ∷ r) (eqb_eq e.kind k b); none_later = h })
    | inr b ↦ inl (and_i (not_f b) h)
  ]
]

pub first : (p : List ℤ) (ρ : Assignment) → all_assigned p ρ ≡ false → First p ρ
unfolding all_assigned all
first [] ρ h = clash refl h
first (q ∷ p) ρ h = elim (look (assigned ρ q)) [
  | inl a ↦
      let w = first p ρ (rw a at h) in
      record { before = q ∷ w.before; word = w.word; after = w.after; whole = ap (λ (t : List ℤ). q ∷ t) w.whole; set = and_i a w.set; unset = w.unset }
  | inr a ↦ record { before = []; word = q; after = p; whole = refl; set = refl; unset = a }
]

-- no unassigned variable has a lower level: those before it are assigned, and levels never fall after it
first_lowest : (P : List ℤ) (ρ : Assignment) (w : ℤ) (a b : List ℤ) → Ordered P (a ++ w ∷ b) → all_assigned a ρ ≡ true → Lowest P ρ w (a ++ w ∷ b)
unfolding all_assigned all
first_lowest P ρ w [] b (more f u e s o) h x (here z) n = rw z (omega arith)
first_lowest P ρ w [] b (more f u e s o) h x (there i) n = (s x i).0
first_lowest P ρ w (q ∷ a) b o h x (here z) n = clash (and_l (assigned ρ q) (all (assigned ρ) a) h) (rw z at n)
first_lowest P ρ w (q ∷ a) b (more f u e s o) h x (there i) n = first_lowest P ρ w a b o (and_r (assigned ρ q) (all (assigned ρ) a) h) x i n

module _ (F : Formula) (ok : Proper F) where
  -- so either literal of it is open
  pub first_open_lem : (ρ : Assignment) (w : First F.prefix ρ) (l : ℤ) → nat_abs l ≡ nat_abs w.word → is_open F.prefix ρ l ≡ true
  first_open_lem ρ w l e = open_i F.prefix ρ l (stands_i l inside e) (assigned_var ρ l w.word e ∙ w.unset) (λ x i u. rw (level_var F.prefix l w.word e) (lowest x i u))
    where
      inside : In w.word F.prefix
      inside = subst (λ (p : List ℤ). In w.word p) (sym w.whole) (in_middle w.before w.word w.after)

      lowest : Lowest F.prefix ρ w.word F.prefix
      lowest = subst (λ (p : List ℤ). Lowest F.prefix ρ w.word p) (sym w.whole)
          (first_lowest F.prefix ρ w.word w.before w.after (subst (λ (p : List ℤ). Ordered F.prefix p) w.whole (ordered ok)) w.set)
