-- One clause of a walk: its numbers move by what the list has of it, and the bounds fall where its new key asks for it.
use Rattle.std.specs.Prelude.{ℕ, zero, suc, ◌+◌, ◌-◌, ◌*◌, ◌≤◌, ◌<◌, ◌≡◌, refl, List, [], ◌∷◌, length, get_or, drop, set}
use Rattle.std.proofs.Common.{sym, ◌∙◌, arith, length-set, length-drop, get_or-set_same, ext_get_or, get_or-set_other, get_or-drop, eq-eqb, ne_eqb}
use Rattle.std.proofs.Math.Decide.{ℕ_discrete}
use Rattle.counted.specs.Inner.Numbers.{key_at}
use Rattle.counted.specs.Inner.Walk.{Bounded, Lowered, Moved, NoneBelow, added}
use Rattle.counted.specs.declared.walk.Bounds.{Bounds}

-- ---- laws of the list
pub added_own : (a c : ℕ) (left : List ℕ) → added a c (c ∷ left) ≡ a + added a c left
unfolding added
added_own a c left = rw (eq-eqb c c refl)

pub added_other : (a c k : ℕ) (left : List ℕ) → (c ≡ k → ⊥) → added a c (k ∷ left) ≡ added a c left
unfolding added
added_other a c k left n = rw (ne_eqb k c (λ e. n (sym e))) (omega arith)

pub added_none : (a c : ℕ) → added a c [] ≡ 0
unfolding added
added_none a c = refl

pub added_drop : (a c k : ℕ) (L : List ℕ) → added a c (drop k L) ≤ added a c L
unfolding added
added_drop a c zero L = omega arith
added_drop a c (suc k) [] = omega arith
added_drop a c (suc k) (x ∷ L) = omega (arith, added_drop a c k L)

-- ---- where no clause of the walk is, nothing moves
pub moved_rest : (n a b : ℕ) (L xs₀ xs : List ℕ) → ((c : ℕ) → n ≤ c → added a c L ≡ 0) → ((c : ℕ) → n ≤ c → added b c L ≡ 0) → Moved a b L xs₀ [] xs → drop n xs ≡ drop n xs₀
moved_rest n a b L xs₀ xs k h r = ext_get_or 0 (drop n xs) (drop n xs₀) (simp length-drop (omega (arith, r.kept)))
    (λ i l. rw (get_or-drop n xs i 0, get_or-drop n xs₀ i 0) (omega (arith, r.said (n + i), added_none a (n + i), added_none b (n + i), k (n + i) (omega arith), h (n + i) (omega arith))))

-- ---- one clause of the walk, with what is left after it
module _ (a b : ℕ) (L xs₀ : List ℕ) (c : ℕ) (left xs : List ℕ) (h : c < length xs) (r : Moved a b L xs₀ (c ∷ left) xs) (most : (d : ℕ) → added d c (c ∷ left) ≤ added d c L) (enough : added b c L ≤ get_or xs₀ c 0) where
  pub sinks : b ≤ get_or xs c 0 + a
  sinks = omega (arith, r.said c, added_own a c left, added_own b c left, most a)

  pub moves : Moved a b L xs₀ left (set xs c (get_or xs c 0 + a - b))
  moves = record { kept = length-set xs c (get_or xs c 0 + a - b) ∙ r.kept; said = λ k. by k (ℕ_discrete k c) }
    where
      by : (k : ℕ) → Dec (k ≡ c) → get_or (set xs c (get_or xs c 0 + a - b)) k 0 + (added a k left + added b k L) ≡ get_or xs₀ k 0 + (added a k L + added b k left)
      by k (yes q) = rw (q, get_or-set_same xs c (get_or xs c 0 + a - b) 0 h) (omega (arith, r.said c, added_own a c left, added_own b c left, sinks))
      by k (no q) = rw (get_or-set_other xs c k (get_or xs c 0 + a - b) 0 q) (omega (arith, r.said k, added_other a k c left q, added_other b k c left q))

module _ (L ts₀ os₀ : List ℕ) (b₀ : Bounds) (c : ℕ) (left ts os : List ℕ) (b : Bounds) (w : Bounded L ts₀ os₀ b₀ (c ∷ left) ts os b) where
  pub lower : (t o : ℕ) → c < length ts → c < length os → (r : Bounds) → Lowered b c (2 * t + o) r → Bounded L ts₀ os₀ b₀ left (set ts c t) (set os c o) r
  lower t o ht ho r l = record {
    conflict_less = omega (arith, l.conflict_less, w.conflict_less);
    conflict = λ n k h. conflict k (ℕ_discrete k c) n h;
    unit_less = omega (arith, l.unit_less, w.unit_less);
    unit = λ k h. unit k (ℕ_discrete k c) h;
  }
    where
      own : key_at (set ts c t) (set os c o) c ≡ 2 * t + o
      own = rw (get_or-set_same ts c t 0 ht, get_or-set_same os c o 0 ho)

      other : (k : ℕ) → (k ≡ c → ⊥) → key_at (set ts c t) (set os c o) k ≡ key_at ts os k
      other k q = rw (get_or-set_other ts c k t 0 q, get_or-set_other os c k o 0 q)

      conflict : (k : ℕ) → Dec (k ≡ c) → NoneBelow ts₀ os₀ b₀.conflict 0 → k < r.conflict → key_at (set ts c t) (set os c o) k ≡ 0 → ⊥
      conflict k (yes q) n h e = omega (arith, l.conflict_at (sym own ∙ (rw q at e)))
      conflict k (no q) n h e = w.conflict n k (omega (arith, l.conflict_less)) (sym (other k q) ∙ e)

      unit : (k : ℕ) → Dec (k ≡ c) → k < r.unit → 0 < added 1 k L → added 1 k left ≡ 0 → key_at (set ts c t) (set os c o) k ≡ 1 → ⊥
      unit k (yes q) h i z e = omega (arith, l.unit_at (sym own ∙ (rw q at e)))
      unit k (no q) h i z e = w.unit k (omega (arith, l.unit_less)) i (added_other 1 k c left q ∙ z) (sym (other k q) ∙ e)
