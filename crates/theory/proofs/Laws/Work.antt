-- The work that a state leaves: every rule lowers it. A search with n variables unassigned has at most 2^(n+1) - 1 rules to go, the nodes of a
-- full tree of n levels; a decision besides owes the tree of its opposite. From what each rule does to the record: one more literal of an
-- unassigned variable leaves fewer of them.
use Rattle.std.specs.Prelude.{◌≡◌, true, false, cond, ℕ, suc, ◌+◌, ◌-◌, ◌^◌, ◌≤◌, ◌<◌, eqb, length, ℤ, neg_ℤ}
use Rattle.std.proofs.Math.Path.{refl}
use Rattle.std.proofs.Common.{sym, ◌∙◌, ap, inl, inr}
use mathlib.Core.List.{List, [], ◌∷◌, ◌++◌}
use native.Mathlib.Omega.{arith}
use Rattle.std.proofs.Math.Nat.{two-pow-succ, one-le-pow, pow-le-pow_right}
use Rattle.words.specs.Laws.Bools.{clash, look, and_l, and_r}
use Rattle.words.specs.Lists.{all}
use Rattle.words.specs.Words.{mem}
use Rattle.formula.specs.Formula.{Formula}
use Rattle.formula.specs.Block.{twice}
use Rattle.formula.specs.Laws.Prefix.{stands, stands_cons, stands_none, twice_head, twice_tail}
use Rattle.theory.specs.Record.{Entry, entry, Record, literals, Assignment, among, true_in, assigned, forced}
use Rattle.theory.specs.Rules.{State, going, valid, unsat, MonotoneTest, Within, StepBy, PathBy, stop, take}
use Rattle.theory.specs.Start.{suits, all_suit, Good, rest}
use Rattle.theory.proofs.Laws.Assignment.{true_snoc, true_append, assigned_var, assigned_own, assigned_still, assigned_sign, assigned_among}
use Rattle.theory.specs.Grown.{put, after}
use Rattle.theory.proofs.Laws.Value.{rest_same, rest_unset}
use Rattle.theory.proofs.Laws.Moves.{suits_stands, Move, grows, cuts, ends, move}

-- ---- how many variables of a prefix are unassigned
abbrev pub free : List ℤ → Assignment → ℕ
free p ρ = length (rest p ρ)

-- a first word that stays assigned keeps what is known of the others
free_cons : (k : ℕ) (q : ℤ) (p : List ℤ) (ρ τ : Assignment) → (assigned ρ q ≡ true → assigned τ q ≡ true) → k + free p τ ≤ free p ρ → k + free (q ∷ p) τ ≤ free (q ∷ p) ρ
unfolding rest
free_cons k q p ρ τ s h = elim (look (assigned ρ q)) [
  | inl a ↦ rw (a, s a) h
  | inr a ↦ elim (look (assigned τ q)) [ inl b ↦ rw (a, b) (omega arith) | inr b ↦ rw (a, b) (omega arith) ]
]

-- one more literal leaves no more of them
free_put : (p : List ℤ) (l : ℤ) (ρ : Assignment) → 0 + free p (put l ρ) ≤ free p ρ
unfolding rest
free_put [] l ρ = omega arith
free_put (q ∷ p) l ρ = free_cons 0 q p ρ (put l ρ) (assigned_still l ρ q) (free_put p l ρ)

-- and fewer, if its variable was one of them
pub free_less : (p : List ℤ) (l : ℤ) (ρ : Assignment) → assigned ρ l ≡ false → stands p l ≡ true → 1 + free p (put l ρ) ≤ free p ρ
unfolding rest
free_less [] l ρ u i = clash i (stands_none l)
free_less (q ∷ p) l ρ u i = elim (stands_cons q p l i) [
  | inl e ↦ let k = free_put p l ρ in rw (sym (assigned_var ρ l q e) ∙ u, sym (assigned_var (put l ρ) l q e) ∙ assigned_own l ρ) (omega arith)
  | inr z ↦ free_cons 1 q p ρ (put l ρ) (assigned_still l ρ q) (free_less p l ρ u z.1)
]

-- whichever sign it has
pub free_sign : (p : List ℤ) (l : ℤ) (ρ : Assignment) → free p (put (neg_ℤ l) ρ) ≡ free p (put l ρ)
free_sign p l ρ = ap (λ (ws : List ℤ). length ws) (rest_same p (put (neg_ℤ l) ρ) (put l ρ) (assigned_sign l ρ))

-- the entries of a good record take one variable each
taken : (p : List ℤ) (r : Record) → twice (literals r) ≡ false → all_suit p r ≡ true → free p (true_in r) + length r ≤ length p
unfolding all mem put assigned literals all_suit
taken p [] d h = let k : free p (among []) ≡ length p = ap (λ (ws : List ℤ). length ws) (rest_unset p (among []) (λ x i. refl)) in omega arith
taken p (e ∷ r) d h =
    let s = suits_stands p e.kind e.literal (and_l (suits p e.kind e.literal) (all_suit p r) h) in
    let j = free_less p e.literal (true_in r) (assigned_among (literals r) e.literal ∙ twice_head e.literal (literals r) d) s in
    let k = taken p r (twice_tail e.literal (literals r) d) (and_r (suits p e.kind e.literal) (all_suit p r) h) in
    omega arith

pub good_taken : (F : Formula) (r : Record) → Good F r → free F.prefix (true_in r) + length r ≤ length F.prefix
good_taken F r g = taken F.prefix r g.distinct g.suited

-- ---- the nodes of a full tree of n levels: a root, and two trees of a level less
abbrev pub nodes : ℕ → ℕ
nodes n = 2 ^ suc n - 1

nodes_pos : (n : ℕ) → 1 ≤ nodes n
nodes_pos n = let k = one-le-pow n 2 (omega arith) in let e = two-pow-succ n in omega arith

pub nodes_up : (n m : ℕ) → n ≤ m → nodes n ≤ nodes m
nodes_up n m h = let k = pow-le-pow_right {n = 2} (omega arith) {i = suc n} {j = suc m} (omega arith) in omega arith

nodes_two : (n m : ℕ) → n < m → nodes n + nodes n < nodes m
nodes_two n m h = let k = nodes_up (suc n) m (omega arith) in let e = two-pow-succ (suc n) in let p = nodes_pos n in omega arith

-- ---- the work
-- what an entry of kind k owes, that leaves n variables unassigned: a decision the tree of its opposite, a forced entry nothing
unfoldable pub debt : ℕ → ℕ → ℕ
debt k n = cond (eqb k 0) 0 (nodes n)

-- what the entries owe together
unfoldable pub owed : List ℤ → Assignment → Record → ℕ
owed p ρ [] = 0
owed p ρ (e ∷ s) = debt e.kind (free p (put e.literal ρ)) + owed p (put e.literal ρ) s

-- the work that a state leaves
unfoldable pub work : Formula → State → ℕ
work F (going r) = nodes (free F.prefix (true_in r)) + owed F.prefix (true_in []) r
work F valid = 0
work F unsat = 0

debt_most : (k n : ℕ) → debt k n ≤ nodes n
unfolding debt
debt_most k n = elim (look (eqb k 0)) [ inl e ↦ rw e (omega arith) | inr e ↦ rw e (omega arith) ]

owed_append : (p : List ℤ) (ρ : Assignment) (a b : Record) → owed p ρ (a ++ b) ≡ owed p ρ a + owed p (after ρ a) b
unfolding owed after
owed_append p ρ [] b = omega arith
owed_append p ρ (e ∷ a) b = let k = owed_append p (put e.literal ρ) a b in omega arith

-- with an entry after the record r, and more
owed_next : (p : List ℤ) (r : Record) (e : Entry) (b : Record)
    → owed p (true_in []) (r ++ e ∷ b) ≡ owed p (true_in []) r + (debt e.kind (free p (put e.literal (true_in r))) + owed p (put e.literal (true_in r)) b)
unfolding owed
owed_next p r e b = let k : after (true_in []) r ≡ true_in r = sym (true_append [] r) in rw (owed_append p (true_in []) r (e ∷ b), k)

module _ (F : Formula) where
  -- the two trees of a literal, and their root, are no more than the tree before it
  grows_less : (r : Record) (k : ℕ) (l : ℤ) → assigned (true_in r) l ≡ false → stands F.prefix l ≡ true → work F (going (r ++ entry k l ∷ [])) < work F (going r)
  unfolding work owed
  grows_less r k l a i =
      let n = free F.prefix (put l (true_in r)) in
      let f = free_less F.prefix l (true_in r) a i in
      let h = nodes_two n (free F.prefix (true_in r)) (omega arith) in
      let d = debt_most k n in
      rw (owed_next F.prefix r (entry k l) [], true_snoc r (entry k l)) (omega arith)

  -- a cut pays the decision's debt
  cuts_less : (k : ℕ) (a b : Record) (l : ℤ) → eqb k 0 ≡ false → work F (going (a ++ entry 0 (neg_ℤ l) ∷ [])) < work F (going (a ++ entry k l ∷ b))
  unfolding work owed debt
  cuts_less k a b l d =
      let h = nodes_pos (free F.prefix (true_in (a ++ entry k l ∷ b))) in
      rw (
        owed_next F.prefix a (entry k l) b,
        owed_next F.prefix a (entry 0 (neg_ℤ l)) [],
        true_snoc a (entry 0 (neg_ℤ l)),
        free_sign F.prefix l (true_in a),
        d,
      ) (omega arith)

  -- forced entries owe nothing
  pub forced_owed : (ρ : Assignment) (r : Record) → forced r ≡ true → owed F.prefix ρ r ≡ 0
  unfolding owed debt forced all
  forced_owed ρ [] h = refl
  forced_owed ρ (e ∷ r) h =
      let k = forced_owed (put e.literal ρ) r (and_r (eqb e.kind 0) (forced r) h) in
      rw (and_l (eqb e.kind 0) (forced r) h) (omega arith)

module _ {μ : MonotoneTest} (within : Within μ) (F : Formula) where
  -- every rule lowers the work
  pub step_less : {r : Record} {s : State} → StepBy μ F r s → work F s < work F (going r)
  unfolding work
  step_less {r} s = go (move within F s)
    where
      positive : 0 < work F (going r)
      positive = let h = nodes_pos (free F.prefix (true_in r)) in omega arith

      go : {s : State} → Move F r s → work F s < work F (going r)
      go (grows k l a h) = grows_less F r k l a (suits_stands F.prefix k l h)
      go (cuts k a b l d e) = rw e (cuts_less F k a b l d)
      go (ends true) = positive
      go (ends false) = positive

  pub path_work : {n : ℕ} {s t : State} → PathBy μ F n s t → n + work F t ≤ work F s
  path_work stop = omega arith
  path_work (take s p) = let k = step_less s in let j = path_work p in omega arith
