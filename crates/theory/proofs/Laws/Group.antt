-- The first group is what stands at level 0, and values of it leave of the prefix what stands after it. By induction on the prefix: up to the
-- first change of quantifier no change is counted, and after it one at least.
use Rattle.std.specs.Prelude.{◌≡◌, refl, Bool, true, false, cond, List, [], ◌∷◌, ℕ, zero, suc, ◌+◌, ◌≤◌, ◌<◌, ℤ, pos, nat_abs, take, drop}
use Rattle.std.proofs.Common.{sym, ◌∙◌, ap, inl, inr, arith, take-append-drop}
use Rattle.std.specs.Bool.{beq}
use Rattle.words.specs.Laws.Bools.{look, or_fl, eqb_same, eqb_ne}
use Rattle.words.specs.Lists.{In, here, there}
use Rattle.words.specs.Laws.Lists.{all_i, in_take, in_drop}
use Rattle.words.specs.Words.{negative}
use Rattle.words.specs.Laws.Words.{nat_abs_neg}
use Rattle.formula.specs.Formula.{Formula, change, level_of, level, run, first_group}
use Rattle.formula.specs.Block.{twice}
use Rattle.formula.specs.Laws.Prefix.{stands, stands_i, stands_none, stands_step, stands_append, other, twice_head, twice_tail, twice_cons}
use Rattle.formula.specs.Proper.{Proper}
use Rattle.theory.specs.Record.{among, assigned}
use Rattle.theory.specs.Tests.{all_assigned}
use Rattle.theory.specs.Start.{rest}
use Rattle.theory.specs.Witness.{group_of, rest_of, signed_as, signed}
use Rattle.theory.proofs.Laws.Assignment.{assigned_among}
use Rattle.theory.proofs.Laws.Value.{rest_append, rest_set, rest_unset}

-- ---- the words before the first change of quantifier are at level 0, and those after it are not
-- q is the word before the part p, and s its sign
level_low : (s : Bool) (q : ℤ) → negative q ≡ s → (p : List ℤ) → twice p ≡ false → (x : ℤ) → In x (take (run s p) p) → change q p + level_of p (nat_abs x) ≡ 0
unfolding run change level_of
level_low s q e (w ∷ p) h x i = rw e (go s (negative w) refl i (λ z. level_low s w z p (twice_tail w p h) x))
  where
    top : x ≡ w → level_of (w ∷ p) (nat_abs x) ≡ 0
    top z = rw (z, eqb_same (nat_abs w))

    deep : In x p → level_of (w ∷ p) (nat_abs x) ≡ change w p + level_of p (nat_abs x)
    deep i = rw (eqb_ne (nat_abs w) (nat_abs x) (other w (twice_head w p h) i))

    go : (s b : Bool) → negative w ≡ b → In x (take (cond (beq s b) (suc (run s p)) 0) (w ∷ p))
        → (negative w ≡ s → In x (take (run s p) p) → change w p + level_of p (nat_abs x) ≡ 0) → cond (beq s b) 0 1 + level_of (w ∷ p) (nat_abs x) ≡ 0
    go true true z (here y) ih = let k = top y in omega arith
    go true true z (there i) ih = let k = deep (in_take (run true p) p i) in let j = ih z i in omega arith
    go false false z (here y) ih = let k = top y in omega arith
    go false false z (there i) ih = let k = deep (in_take (run false p) p i) in let j = ih z i in omega arith
    go false true z y ih = elim y [ ]
    go true false z y ih = elim y [ ]
level_low s q e [] h x i = elim i [ ]

level_high : (s : Bool) (q : ℤ) → negative q ≡ s → (p : List ℤ) → twice p ≡ false → (x : ℤ) → In x (drop (run s p) p) → 0 < change q p + level_of p (nat_abs x)
unfolding run change level_of
level_high s q e (w ∷ p) h x i = rw e (go s (negative w) refl i (λ z. level_high s w z p (twice_tail w p h) x))
  where
    deep : In x p → level_of (w ∷ p) (nat_abs x) ≡ change w p + level_of p (nat_abs x)
    deep i = rw (eqb_ne (nat_abs w) (nat_abs x) (other w (twice_head w p h) i))

    go : (s b : Bool) → negative w ≡ b → In x (drop (cond (beq s b) (suc (run s p)) 0) (w ∷ p))
        → (negative w ≡ s → In x (drop (run s p) p) → 0 < change w p + level_of p (nat_abs x)) → 0 < cond (beq s b) 0 1 + level_of (w ∷ p) (nat_abs x)
    go true true z i ih = let k = deep (in_drop (run true p) p i) in let j = ih z i in omega arith
    go true false z i ih = omega arith
    go false true z i ih = omega arith
    go false false z i ih = let k = deep (in_drop (run false p) p i) in let j = ih z i in omega arith
level_high s q e [] h x i = elim i [ ]

-- of the whole prefix: as if its first word stood before it
pub group_level : (p : List ℤ) → twice p ≡ false → (x : ℤ) → In x (take (first_group p) p) → level p x ≡ 0
unfolding first_group level
group_level (q ∷ p) h x i = let k = level_low (negative q) q refl (q ∷ p) h x i in omega arith
group_level [] h x i = elim i [ ]

pub rest_level : (p : List ℤ) → twice p ≡ false → (x : ℤ) → In x (drop (first_group p) p) → 0 < level p x
unfolding first_group level change
rest_level (q ∷ p) h x i = let k = level_high (negative q) q refl (q ∷ p) h x i in let e = same (negative q) in omega arith
  where
    same : (b : Bool) → cond (beq b b) 0 1 ≤ 0
    same true = omega arith
    same false = omega arith
rest_level [] h x i = elim i [ ]

-- ---- values of the group leave what stands after it
-- where no variable stands twice, one of the rest does not stand before it
before_rest : (k : ℕ) (p : List ℤ) → twice p ≡ false → (x : ℤ) → In x (drop k p) → stands (take k p) x ≡ false
before_rest zero p h x i = stands_none x
before_rest (suc k) [] h x i = stands_none x
before_rest (suc k) (q ∷ p) h x i =
    rw (stands_step q (take k p) x, before_rest k p (twice_tail q p h) x i, eqb_ne (nat_abs x) (nat_abs q) (λ e. other q (twice_head q p h) (in_drop k p i) (sym e)))

stands_take : (k : ℕ) (p : List ℤ) (x : ℤ) → stands p x ≡ false → stands (take k p) x ≡ false
stands_take k p x h = or_fl (stands (take k p) x) (stands (drop k p) x) (sym (stands_append (take k p) (drop k p) x) ∙ rw (take-append-drop k p) h)

pub twice_take : (k : ℕ) (p : List ℤ) → twice p ≡ false → twice (take k p) ≡ false
unfolding twice
twice_take zero p h = refl
twice_take (suc k) [] h = refl
twice_take (suc k) (q ∷ p) h = twice_cons q (take k p) (stands_take k p q (twice_head q p h)) (twice_take k p (twice_tail q p h))

pub rest_group : (F : Formula) → Proper F → (vs : List ℤ) → ((x : ℤ) → stands vs x ≡ stands (group_of F) x) → rest F.prefix (among vs) ≡ rest_of F
unfolding all_assigned
rest_group F ok vs same =
    ap (λ (ws : List ℤ). rest ws (among vs)) (sym (take-append-drop k p))
    ∙ rest_append (take k p) (drop k p) (among vs)
    ∙ rw (rest_set (take k p) (among vs) (all_i (assigned (among vs)) (take k p) (λ x i. set x ∙ stands_i x i refl)), rest_unset (drop k p) (among vs) (λ x i. set x ∙ before_rest k p ok.once x i))
  where
    p : List ℤ
    p = F.prefix

    k : ℕ
    k = first_group F.prefix

    set : (x : ℤ) → assigned (among vs) x ≡ stands (take k p) x
    set x = assigned_among vs x ∙ same x

-- ---- literals of a group's variables, with the signs that s says
pub signed_variable : (s : ℤ → Bool) (q : ℤ) → nat_abs (signed_as s q) ≡ nat_abs q
signed_variable s q = elim (look (s q)) [ inl e ↦ rw e | inr e ↦ rw e (nat_abs_neg (pos (nat_abs q))) ]

pub signed_stands : (s : ℤ → Bool) (g : List ℤ) (x : ℤ) → stands (signed s g) x ≡ stands g x
unfolding signed
signed_stands s [] x = refl
signed_stands s (q ∷ g) x = rw (stands_step (signed_as s q) (signed s g) x, stands_step q g x, signed_variable s q, signed_stands s g x)

pub signed_i : (s : ℤ → Bool) {q : ℤ} {g : List ℤ} → In q g → In (signed_as s q) (signed s g)
unfolding signed
signed_i s {q} (here {y = y} e) = here {y = signed_as s y} (ap (λ (q : ℤ). signed_as s q) e)
signed_i s {q} (there {y = y} i) = there {y = signed_as s y} (signed_i s i)

pub signed_e : (s : ℤ → Bool) (g : List ℤ) {x : ℤ} → In x (signed s g) → (q : ℤ) × In q g × (x ≡ signed_as s q)
unfolding signed
signed_e s (q ∷ g) (here e) = (q, here refl, e)
signed_e s (q ∷ g) (there i) = let (w, j, e) = signed_e s g i in (w, there j, e)
signed_e s [] x3 = elim x3 [ ]
