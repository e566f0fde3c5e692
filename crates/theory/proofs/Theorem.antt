-- The theorem: whatever rules are taken in whatever order, a search ends and its answer is right. Finite by the work, which every rule lowers;
-- sound by the invariant; never stuck since where one rule's test fails another's holds.
--
-- Proper's `plain`, that no clause has both signs of a variable, is used in two places: a clause in conflict makes the formula false
-- (`dead_false`), and a unit's opposite leaves a clause in conflict (`unit_dead`). Examples has a formula that shows why it is asked.
use Rattle.std.specs.Prelude.{◌≡◌, refl, ◌⊎◌, Bool, true, false, ℤ, length}
use Rattle.std.proofs.Common.{sym, ◌∙◌, inl, inr}
use mathlib.Core.List.{List, []}
use Prim.Native.Nat.{ℕ, zero, suc, ◌-◌, ◌^◌, ◌<◌}
use native.Mathlib.Omega.{arith}
use Rattle.std.proofs.Math.Nat.{one-le-pow}
use Rattle.words.specs.Laws.Bools.{look}
use Rattle.words.specs.Lists.{all}
use Rattle.formula.specs.Limits.{Limits}
use Rattle.formula.specs.Formula.{Formula, formula_of}
use Rattle.formula.specs.Block.{refusal}
use Rattle.formula.specs.Laws.Prefix.{stands_bound}
use Rattle.formula.specs.Proper.{Proper}
use Rattle.formula.specs.Laws.Accepted.{proper}
use Rattle.formula.specs.Truth.{true?}
use Rattle.theory.specs.Record.{Record, true_in, without, forced}
use Rattle.theory.specs.Tests.{conflict, all_assigned, monotone, monotone_open}
use Rattle.theory.specs.Rules.{State, going, valid, unsat, verdict, Conflict, Quiet, Full, MonotoneTest, Within, StepBy, backtrack_exists, fail, decide_exists, decide_forall, backtrack_forall, succeed, PathBy, stop, take, most_rules}
use Rattle.theory.specs.Start.{Good, true_under}
use Rattle.theory.proofs.Laws.Value.{value_under, under_none}
use Rattle.theory.proofs.Laws.Tested.{open_e}
use Rattle.theory.proofs.Laws.Monotone.{open_within, whole_within}
use Rattle.theory.proofs.Laws.Invariant.{invariant_start, holds_path}
use Rattle.theory.proofs.Laws.Moves.{good_none, path_append, path_snoc}
use Rattle.theory.proofs.Laws.Work.{free, good_taken, nodes_up, work, forced_owed, step_less, path_work}
use Rattle.theory.proofs.Laws.First.{last, first, first_open_lem}
use Rattle.theory.specs.Met.{Last, First}
use Rattle.theory.specs.Order.{AnyOrder}

-- ---- finite: a path from k forced entries of distinct variables of the prefix has at most 2^(V+1-k) - 1 rules
pub finite : {μ : MonotoneTest} → Within μ → (F : Formula) (r : Record) → Good F r → forced r ≡ true
    → {n : ℕ} {s : State} → PathBy μ F n (going r) s → n < 2 ^ (suc (length F.prefix) - length r)
unfolding work
finite within F r g f p =
    let w = rw (forced_owed F (true_in []) r f) at (path_work within F p) in
    let t = good_taken F r g in
    let u = nodes_up (free F.prefix (true_in r)) (length F.prefix - length r) (omega arith) in
    let e : suc (length F.prefix) - length r ≡ suc (length F.prefix - length r) = omega arith in
    let q = one-le-pow (suc (length F.prefix - length r)) 2 (omega arith) in
    rw e (omega arith)

-- ---- sound: from a record of forced entries the answer is the truth of the rest
pub sound : {μ : MonotoneTest} → Within μ → (F : Formula) → Proper F → (r : Record) → forced r ≡ true → (b : Bool) {n : ℕ} → PathBy μ F n (going r) (verdict b) → true_under F r ≡ b
sound within F ok r start true p = sym (value_under F ok r) ∙ holds_path F r within ok start (invariant_start F r) p
sound within F ok r start false p = sym (value_under F ok r) ∙ holds_path F r within ok start (invariant_start F r) p

-- ---- never stuck: in every open state some rule applies, whatever the test of Monotone
module _ {μ : MonotoneTest} (F : Formula) (ok : Proper F) where
  pub never_stuck : (r : Record) → (s : State) × StepBy μ F r s
  never_stuck r = elim (look (conflict F.prefix F.clauses (true_in r))) [
    | inl c ↦ back_exists c (last 1 r)
    | inr q ↦ elim (look (all_assigned F.prefix (true_in r))) [ inl f ↦ back_forall q f (last 2 r) | inr f ↦ choose q (first F.prefix (true_in r) f) ]
  ]
    where
      back_exists : Conflict F r → (without 1 r ≡ true) ⊎ Last 1 r → (s : State) × StepBy μ F r s
      back_exists c (inl h) = (_, fail c h)
      back_exists c (inr s) = (_, backtrack_exists c s.before s.later s.literal s.whole s.none_later)

      back_forall : Quiet F r → Full F r → (without 2 r ≡ true) ⊎ Last 2 r → (s : State) × StepBy μ F r s
      back_forall q f (inl h) = (_, succeed q f h)
      back_forall q f (inr s) = (_, backtrack_forall q f s.before s.later s.literal s.whole s.none_later)

      choose : Quiet F r → First F.prefix (true_in r) → (s : State) × StepBy μ F r s
      choose q w = let o = first_open_lem F ok (true_in r) w w.word refl in
          elim (stands_bound F.prefix w.word (open_e F.prefix (true_in r) w.word o).bound) [ inl e ↦ (_, decide_exists q w.word o e) | inr e ↦ (_, decide_forall q w.word o e) ]

-- so, since the work falls, from every state some path leads to an answer
answered : {μ : MonotoneTest} → Within μ → (F : Formula) → Proper F → (s : State) → (b : Bool) × (n : ℕ) × PathBy μ F n s (verdict b)
answered {μ} within F ok s = go (suc (work F s)) s (omega arith)
  where
    go : (k : ℕ) (s : State) → work F s < k → (b : Bool) × (n : ℕ) × PathBy μ F n s (verdict b)
    go zero s h = absurd (omega arith)
    go (suc k) valid h = (true, 0, stop)
    go (suc k) unsat h = (false, 0, stop)
    go (suc k) (going r) h =
        let (t, x) = never_stuck F ok r in
        let l = step_less within F x in
        let (b, n, p) = go k t (omega arith) in
        (b, suc n, take x p)

-- ---- all together, for any test of Monotone within the widest
module _ {μ : MonotoneTest} (within : Within μ) (F : Formula) (ok : Proper F) where
  -- [order.start] From a good record of forced entries, as the openings of a listing are: the answer is the truth of the rest.
  pub any_order_from : (r : Record) → Good F r → forced r ≡ true → AnyOrder μ F r (2 ^ (suc (length F.prefix) - length r)) (true_under F r)
  any_order_from r g f = record {
    short = finite within F r g f;
    fewer = λ p. finite within F r g f (path_snoc F p (never_stuck F ok _).1);
    right = sound within F ok r f;
    goes_on = λ {n} {s} p. let (b, m, q) = answered within F ok s in (m, rw (sym (sound within F ok r f b (path_append F p q).1)) at q);
  }

  -- from the empty record
  pub any_order_by : AnyOrder μ F [] (most_rules F) (true? F)
  unfolding forced all
  any_order_by =
      let e : suc (length F.prefix) - 0 ≡ suc (length F.prefix) = omega arith in
      rw (e, under_none F) at (any_order_from [] (good_none F) refl)

-- [order.ends] [order.right] With the rules as they stand.
pub any_order : (F : Formula) → Proper F → AnyOrder monotone_open F [] (2 ^ suc (length F.prefix)) (true? F)
any_order = any_order_by open_within

-- [order.monotone] With a Monotone that counts all clauses.
pub any_order_whole : (F : Formula) → Proper F → AnyOrder monotone F [] (2 ^ suc (length F.prefix)) (true? F)
any_order_whole = any_order_by whole_within

-- [order] So of the formula of every block that the check accepts.
pub accepted_any_order : (L : Limits) (b : List ℤ) → refusal L b ≡ 0 → AnyOrder monotone_open (formula_of b) [] (2 ^ suc (length (formula_of b).prefix)) (true? (formula_of b))
accepted_any_order L b h = any_order (formula_of b) (proper L b h)
