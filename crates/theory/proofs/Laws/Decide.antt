-- The way down the prefix to a literal's variable, which Decide, Unit and Monotone share, and the law of a decision: the value is what the
-- quantifier of an open literal asks of the values with it and with its opposite. By induction on the prefix; for a decision unassigned
-- variables above are of its group, and two questions of one kind may change places.
use Rattle.std.specs.Prelude.{◌≡◌, refl, Bool, true, false, not, List, [], ◌∷◌, ◌≤◌, eqb, ℤ, neg_ℤ, nat_abs}
use Rattle.std.proofs.Common.{sym, ◌∙◌, inl, inr, arith}
use Rattle.words.specs.Laws.Bools.{clash, look, eqb_comm}
use Rattle.words.specs.Lists.{In, here, there}
use Rattle.words.specs.Words.{negative}
use Rattle.words.specs.Laws.Words.{nat_abs_neg}
use Rattle.formula.specs.Formula.{Formula, existential, universal, level}
use Rattle.formula.specs.Proper.{Proper}
use Rattle.formula.specs.Laws.Prefix.{stands, stands_e, stands_cons, stands_none, existential_stands, universal_stands, universal_var, level_var, Ordered, more, ordered}
use Rattle.formula.specs.Truth.{asked}
use Rattle.theory.specs.Record.{Assignment, assigned}
use Rattle.theory.specs.Tests.{is_open}
use Rattle.theory.proofs.Laws.Asked.{asked_exchange}
use Rattle.theory.proofs.Laws.Assignment.{unset_put, put_comm, assigned_var, assigned_still}
use Rattle.theory.specs.Grown.{put}
use Rattle.theory.proofs.Laws.Value.{value, value_of, value_set, value_ask, value_at_lem, value_own}
use Rattle.theory.proofs.Laws.Tested.{still_unassigned, open_e}
use Rattle.theory.specs.Met.{Lowest}

-- an unassigned word q of the prefix P that stands above l's, and a literal y of it
pub record Above (P : List ℤ) (l : ℤ) (ρ : Assignment) (q y : ℤ) : Type 0 where
  pub bound : stands P q ≡ true
  pub higher : level P q ≤ level P l
  pub group : level P q ≡ level P l → negative q ≡ universal P l
  pub apart : eqb (nat_abs q) (nat_abs l) ≡ false
  pub unset : assigned ρ q ≡ false
  pub own : nat_abs y ≡ nat_abs q

-- a word's quantifier is its sign
word_sign : {P p : List ℤ} {w : ℤ} → Ordered P p → In w p → universal P w ≡ negative w
word_sign (more f u e s o) (here z) = rw z u
word_sign (more f u e s o) (there i) = word_sign o i
word_sign {P = P} {w = w} Rattle.formula.specs.Laws.Prefix.none x3 = elim x3 [ ]

-- the value is some g of the values with l and with its opposite, if a fact outlives the literals above l, lets g through their questions,
-- and makes l's own question g
module _ (P : List ℤ) (m : List (List ℤ)) (l : ℤ) (g : Bool → Bool → Bool) (Fact : Assignment → Type 0)
    (kept : (ρ : Assignment) (q y : ℤ) → Above P l ρ q y → Fact ρ → Fact (put y ρ))
    (through : (ρ : Assignment) (q : ℤ) → Above P l ρ q q → Fact ρ → (x y z w : Bool) → asked (negative q) (g x y) (g z w) ≡ g (asked (negative q) x z) (asked (negative q) y w))
    (met : (ρ : Assignment) (p : List ℤ) → Ordered P p → Fact ρ → asked (universal P l) (value p m (put l ρ)) (value p m (put (neg_ℤ l) ρ)) ≡ g (value p m (put l ρ)) (value p m (put (neg_ℤ l) ρ))) where
  pub descend : (p : List ℤ) → Ordered P p → stands p l ≡ true → (ρ : Assignment) → assigned ρ l ≡ false → Fact ρ → value p m ρ ≡ g (value p m (put l ρ)) (value p m (put (neg_ℤ l) ρ))
  descend [] o i ρ a r = clash i (stands_none l)
  descend (q ∷ p) (more f u e s o) i ρ a r = elim (stands_cons q p l i) [
    | inl z ↦ value_at_lem q p m ρ l z (sym (assigned_var ρ l q z) ∙ a)
        ∙ rw (← u, ← universal_var P l q z, value_own q p m ρ l z, value_own q p m ρ (neg_ℤ l) (nat_abs_neg l ∙ z)) (met ρ p o r)
    | inr z ↦ elim (look (assigned ρ q)) [
      | inl b ↦ rw (value_set q p m ρ b, value_set q p m (put l ρ) (assigned_still l ρ q b), value_set q p m (put (neg_ℤ l) ρ) (assigned_still (neg_ℤ l) ρ q b)) (descend p o z.1 ρ a r)
      | inr b ↦
          let v = above z.0 z.1 b in
          let ul = unset_put q ρ l (v q refl).apart a in
          let uq = unset_put l ρ q z.0 b in
          rw (
            value_ask q p m ρ b,
            value_ask q p m (put l ρ) uq.0,
            value_ask q p m (put (neg_ℤ l) ρ) uq.1,
            descend p o z.1 (put q ρ) ul.0 (kept ρ q q (v q refl) r),
            descend p o z.1 (put (neg_ℤ q) ρ) ul.1 (kept ρ q (neg_ℤ q) (v (neg_ℤ q) (nat_abs_neg q)) r),
            put_comm l q ρ,
            put_comm l (neg_ℤ q) ρ,
            put_comm (neg_ℤ l) q ρ,
            put_comm (neg_ℤ l) (neg_ℤ q) ρ,
          ) (through ρ q (v q refl) r _ _ _ _)
    ]
  ]
    where
      bound : (b : Bool) → universal P q ≡ b → existential P q ≡ not b → stands P q ≡ true
      bound true h k = universal_stands P q h
      bound false h k = existential_stands P q k

      above : eqb (nat_abs l) (nat_abs q) ≡ false → stands p l ≡ true → assigned ρ q ≡ false → (y : ℤ) → nat_abs y ≡ nat_abs q → Above P l ρ q y
      above d j b y h = let (w, k, z) = stands_e p l j in record {
        bound = bound (negative q) u e;
        higher = rw (level_var P l w z) (s w k).0;
        group = λ v. (s w k).1 (v ∙ level_var P l w z) ∙ sym (word_sign o k) ∙ sym (universal_var P l w z);
        apart = eqb_comm (nat_abs q) (nat_abs l) ∙ d;
        unset = b;
        own = h;
      }

-- decide: what is unassigned above an open literal is of its group, so the questions change places
pub decide_law : (F : Formula) → Proper F → (ρ : Assignment) (l : ℤ) → is_open F.prefix ρ l ≡ true
    → value_of F ρ ≡ asked (universal F.prefix l) (value_of F (put l ρ)) (value_of F (put (neg_ℤ l) ρ))
decide_law F ok ρ l h =
    let o = open_e P ρ l h in
    descend P F.clauses l (asked (universal P l)) (λ τ. Lowest P τ l P) (λ τ q y v r x i a. r x i (still_unassigned y τ x a)) through (λ τ p o r. refl)
    P (ordered ok) o.bound ρ o.unset o.lowest
  where
    P : List ℤ
    P = F.prefix

    through : (τ : Assignment) (q : ℤ) → Above P l τ q q → Lowest P τ l P → (x y z w : Bool)
        → asked (negative q) (asked (universal P l) x y) (asked (universal P l) z w) ≡ asked (universal P l) (asked (negative q) x z) (asked (negative q) y w)
    through τ q v r x y z w =
        let (t, i, e) = stands_e P q v.bound in
        let k = r t i (sym (assigned_var τ q t e) ∙ v.unset) in
        let n = level_var P q t e in
        let j = v.higher in
        rw (v.group (omega arith)) (asked_exchange (universal P l) x y z w)
