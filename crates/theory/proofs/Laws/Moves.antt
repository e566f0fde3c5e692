-- What a rule does to a record, whichever rule it is: it appends a literal of an unassigned variable, with a kind that suits it; or it cuts
-- at a decision and puts the opposite there, forced; or it ends the search. From the rules' tests. So records stay good: distinct
-- variables of the prefix, each of a kind that suits it.
use Rattle.std.specs.Prelude.{◌≡◌, Bool, true, false, ◌&&◌, List, [], ◌∷◌, ◌++◌, ℕ, zero, suc, eqb, ℤ, neg_ℤ}
use Rattle.std.proofs.Math.Path.{refl}
use Rattle.std.proofs.Common.{sym, ◌∙◌, inl, inr}
use Rattle.words.specs.Laws.Bools.{clash, or_e, or_l, or_r, and_l, and_r}
use Rattle.words.specs.Lists.{all}
use Rattle.words.specs.Laws.Lists.{all_append}
use Rattle.formula.specs.Formula.{Formula, existential, universal}
use Rattle.formula.specs.Laws.Prefix.{stands, existential_neg, universal_neg, existential_stands, universal_stands, twice_before, twice_snoc}
use Rattle.formula.specs.Block.{twice}
use Rattle.theory.specs.Record.{entry, Record, true_in, assigned, Entry, literals}
use Rattle.theory.specs.Rules.{State, going, verdict, MonotoneTest, Within, StepBy, backtrack_exists, fail, unit, monotone, decide_exists, decide_forall, backtrack_forall, succeed, valid, unsat, PathBy, stop, take}
use Rattle.theory.specs.Start.{suits, all_suit, Good}
use Rattle.theory.proofs.Laws.Tested.{unit_e, open_e, monotone_e}
use Rattle.theory.proofs.Laws.Assignment.{assigned_neg, assigned_among, literals_append}

-- what a rule makes of the record r
pub data Move (F : Formula) (r : Record) : State → Type 0 where
  grows : (k : ℕ) (l : ℤ) → assigned (true_in r) l ≡ false → suits F.prefix k l ≡ true → Move F r (going (r ++ entry k l ∷ []))
  cuts : (k : ℕ) (a b : Record) (l : ℤ) → eqb k 0 ≡ false → r ≡ a ++ entry k l ∷ b → Move F r (going (a ++ entry 0 (neg_ℤ l) ∷ []))
  ends : (b : Bool) → Move F r (verdict b)

-- whatever kind suits, the variable is the prefix's
pub suits_forced : (p : List ℤ) (k : ℕ) (l : ℤ) → suits p k l ≡ true → suits p 0 l ≡ true
unfolding suits
suits_forced p zero l h = h
suits_forced p (suc zero) l h = or_l (universal p l) h
suits_forced p (suc (suc zero)) l h = or_r (existential p l) h
suits_forced p (suc (suc (suc k))) l h = clash h refl

pub suits_stands : (p : List ℤ) (k : ℕ) (l : ℤ) → suits p k l ≡ true → stands p l ≡ true
unfolding suits
suits_stands p k l h = elim (or_e (existential p l) (universal p l) (suits_forced p k l h)) [ inl e ↦ existential_stands p l e | inr e ↦ universal_stands p l e ]

pub suits_neg : (p : List ℤ) (l : ℤ) → suits p 0 (neg_ℤ l) ≡ suits p 0 l
unfolding suits
suits_neg p l = rw (existential_neg p l, universal_neg p l)

pub move : {μ : MonotoneTest} → Within μ → (F : Formula) {r : Record} {s : State} → StepBy μ F r s → Move F r s
unfolding suits
move w F (backtrack_exists c a b l e h) = cuts 1 a b l refl e
move w F (fail c h) = ends false
move w F {r} (unit q C j l h) = let u = unit_e F.prefix (true_in r) C l h in grows 0 l u.unset (or_l (universal F.prefix l) u.exists)
move w F {r} (monotone q l h) =
    let u = monotone_e F.prefix F.clauses (true_in r) l (w.wide F.prefix F.clauses (true_in r) l h) in
    grows 0 l u.unset (elim u.spare [ inl k ↦ or_l (universal F.prefix l) k.0 | inr k ↦ or_r (existential F.prefix l) k.0 ])
move w F {r} (decide_exists q l o e) = grows 1 l (open_e F.prefix (true_in r) l o).unset e
move w F {r} (decide_forall q l o e) = grows 2 l (open_e F.prefix (true_in r) l o).unset e
move w F (backtrack_forall q f a b l e h) = cuts 2 a b l refl e
move w F (succeed q f h) = ends true

-- ---- good records stay good
abbrev pub GoodState : Formula → State → Type 0
GoodState F (going r) = Good F r
GoodState F valid = Unit {0}
GoodState F unsat = Unit {0}

suit_append : (p : List ℤ) (a b : Record) → all_suit p (a ++ b) ≡ (all_suit p a && all_suit p b)
unfolding all_suit
suit_append p a b = all_append (λ e. suits p e.kind e.literal) a b

module _ (F : Formula) where
  pub good_none : Good F []
  unfolding literals twice all_suit all
  good_none = record { distinct = refl; suited = refl }

  -- one more entry of an unassigned variable
  pub good_grow : (r : Record) (k : ℕ) (l : ℤ) → Good F r → assigned (true_in r) l ≡ false → suits F.prefix k l ≡ true → Good F (r ++ entry k l ∷ [])
  unfolding literals all_suit all
  good_grow r k l g a h = record {
    distinct = rw (literals_append r (entry k l ∷ [])) (twice_snoc (literals r) l g.distinct (sym (assigned_among (literals r) l) ∙ a));
    suited = rw (suit_append F.prefix r (entry k l ∷ []), g.suited, h);
  }

  -- what is known at an entry: those before it are good, its variable is new to them, and its kind suits it
  pub good_at : (a b : Record) (e : Entry) → Good F (a ++ e ∷ b) → Good F a × (assigned (true_in a) e.literal ≡ false) × (suits F.prefix e.kind e.literal ≡ true)
  unfolding literals all_suit all
  good_at a b e g =
      let (d, s) = twice_before (literals a) e.literal (literals b) (rw literals_append at g.distinct) in
      let h = rw (suit_append F.prefix a (e ∷ b)) at g.suited in
      let k = and_r (all_suit F.prefix a) (suits F.prefix e.kind e.literal && all_suit F.prefix b) h in (
        record { distinct = d; suited = and_l (all_suit F.prefix a) (all_suit F.prefix (e ∷ b)) h },
        assigned_among (literals a) e.literal ∙ s,
        and_l (suits F.prefix e.kind e.literal) (all_suit F.prefix b) k,
      )

  -- the opposite in an entry's place
  pub good_cut : (a b : Record) (k : ℕ) (l : ℤ) → Good F (a ++ entry k l ∷ b) → Good F (a ++ entry 0 (neg_ℤ l) ∷ [])
  good_cut a b k l g =
      let (h, u, s) = good_at a b (entry k l) g in
      good_grow a 0 (neg_ℤ l) h (assigned_neg (true_in a) l ∙ u) (suits_neg F.prefix l ∙ suits_forced F.prefix k l s)

pub good_step : {μ : MonotoneTest} → Within μ → (F : Formula) {r : Record} {s : State} → Good F r → StepBy μ F r s → GoodState F s
good_step w F {r} g s = go g (move w F s)
  where
    go : {s : State} → Good F r → Move F r s → GoodState F s
    go g (grows k l a h) = good_grow F r k l g a h
    go g (cuts k a b l d e) = good_cut F a b k l (rw e at g)
    go g (ends true) = tt
    go g (ends false) = tt

pub good_path : {μ : MonotoneTest} → Within μ → (F : Formula) {n : ℕ} {s t : State} → GoodState F s → PathBy μ F n s t → GoodState F t
good_path w F g stop = g
good_path w F g (take x p) = good_path w F (good_step w F g x) p

-- ---- paths put together: one after another, and one more rule at the end, as a history of steps grows
pub path_append : {μ : MonotoneTest} (F : Formula) {n m : ℕ} {s t u : State} → PathBy μ F n s t → PathBy μ F m t u → (k : ℕ) × PathBy μ F k s u
path_append F stop q = (_, q)
path_append F (take x p) q = (_, take x (path_append F p q).1)

pub path_snoc : {μ : MonotoneTest} (F : Formula) {n : ℕ} {s t : State} {r : Record} → PathBy μ F n s (going r) → StepBy μ F r t → PathBy μ F (suc n) s t
path_snoc F stop x = take x stop
path_snoc F (take s p) x = take s (path_snoc F p x)
