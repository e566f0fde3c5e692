-- The first group and an opening's values, as the loops over them see them; and where an opening's search starts: the words that are lent are the
-- first group, and the places are within the buffers.
use Prim.Native.Nat.{ℕ, suc, ◌+◌, ◌-◌, ◌*◌, ◌^◌, ◌%◌, ◌≤◌, ◌<◌}
use mathlib.Core.Path.{◌≡◌, refl, sym, ◌∙◌, ap, subst}
use mathlib.Core.Bool.{Bool, true, false, beq, cond}
use mathlib.Core.List.{List, [], ◌∷◌}
use native.Mathlib.Nat.{le_trans}
use native.Mathlib.Omega.{arith}
use native.Mathlib.Numerals.{add-one}
use lib.IntN.{ℤ, pos, nat_abs}
use lib.ListN.{length, get_or, drop, set, length-drop, take}
use lib.Pow.{pow_mono}
use lib.Seq.{sets, length-take-le, get_or-take}
use Rattle.std.specs.List.{prefix_len}
use Rattle.std.proofs.lemmas.List.Folds.{length-prefix_len}
use Rattle.words.specs.Laws.Lists.{next, ended}
use Rattle.words.specs.Words.{negative}
use Rattle.formula.specs.Formula.{run, first_group, variables_of, prefix_of, formula_of}
use Rattle.formula.specs.Limits.{limits, max_variables}
use Rattle.formula.specs.Laws.Limits.{group_small, variables_are}
use Rattle.formula.specs.Block.{refusal}
use Rattle.formula.specs.Laws.Accepted.{accepted, variables_most, prefix_named, prefix_length, Accepted}
use Rattle.record.specs.declared.rule.State.TheVariants.{Open}
use Rattle.record.specs.Search.{Search, search}
use Rattle.record.specs.Inner.Ready.{KeptIn, OnBlock}
use Rattle.record.specs.Trail.{Trail, wiped_trail, trail}
use Rattle.record.proofs.Laws.Accepted.{accepted_binds}
use Rattle.search.specs.Run.{trip, run_from}
use Rattle.listing.specs.Opening.{values_of, value_at, opening_start, opening_search}
use Rattle.listing.proofs.Laws.Start.{starts}
use Rattle.listing.proofs.Laws.Values.{group_few}
use Rattle.listing.specs.Inner.Pages.{OnGroup, Writable}

-- ---- the first group: the words that are counted have the first one's sign, u
run_counted : (u : Bool) (p : List ℤ) → prefix_len (λ q. beq (negative q) u) p ≡ run u p
unfolding run
run_counted u [] = refl
run_counted u (q ∷ p) = rw (run_counted u p) (go u (negative q))
  where
    go : (u v : Bool) → cond (beq v u) (1 + run u p) 0 ≡ cond (beq u v) (suc (run u p)) 0
    go true true = omega arith
    go true false = refl
    go false true = refl
    go false false = omega arith

pub group_counted : (p : List ℤ) {u : Bool} → u ≡ negative (get_or p 0 (pos 0)) → let test : ℤ → Bool = λ q. beq (negative q) u in length (take (prefix_len test p) p) ≡ first_group p
unfolding first_group
group_counted [] e = refl
group_counted (q ∷ p) {u = u} e = length-prefix_len (λ x. beq (negative x) u) (q ∷ p) ∙ run_counted u (q ∷ p) ∙ ap (λ v. run v (q ∷ p)) e

-- ---- how many openings there are
pub shifted : (k : ℕ) → k ≤ limits.group → 1 * 2 ^ k % 4294967296 ≡ 2 ^ k
shifted k h = let m : 2 ^ k ≤ 2 ^ 31 = pow_mono (le_trans h group_small) in omega arith

-- ---- the values of the number n, written one after the other: the loop is at i
module _ (n : ℕ) (g ls : List ℤ) (i : ℕ) where
  pub values_write : i < length g → {w : ℤ} → w ≡ value_at n (length g - 1 - i) (get_or g i (pos 0))
      → sets (set ls i w) (i + 1) (values_of n (drop (i + 1) g)) ≡ sets ls i (values_of n (drop i g))
  unfolding values_of
  values_write h r =
      let place : length g - 1 - i ≡ length g - (i + 1) = omega arith in
      rw (r, place, next g i (pos 0) h, length-drop (i + 1) g, add-one i)

  pub values_written : length g ≤ i → sets ls i (values_of n (drop i g)) ≡ ls
  unfolding values_of
  values_written h = rw (ended g i h)

-- ---- the words of an accepted block's first group are those of its variables
module _ (b : List ℤ) (block : refusal limits b ≡ 0) where
  a : Accepted limits b
  a = accepted limits b block

  pub group_within : first_group (prefix_of b) ≤ variables_of b
  group_within = omega (arith, group_few (prefix_of b), prefix_length a)

  pub group_long : length (take (first_group (prefix_of b)) (prefix_of b)) ≡ first_group (prefix_of b)
  group_long = length-take-le (first_group (prefix_of b)) (prefix_of b) (group_few (prefix_of b))

  pub group_word : (i : ℕ) → i < length (take (first_group (prefix_of b)) (prefix_of b)) → nat_abs (get_or (take (first_group (prefix_of b)) (prefix_of b)) i (pos 0)) ≤ limits.variables
  group_word i h =
      rw (get_or-take (first_group (prefix_of b)) (prefix_of b) i (pos 0) (omega (arith, group_long)))
      (omega (arith, variables_most a, ((prefix_named a).at i (omega (arith, group_long, group_within, prefix_length a))).most))

-- ---- where an opening's search starts
module _ {b : List ℤ} {work : Trail} {k : ℕ} (o : OnGroup b work k) where
  -- an array of as many places as the limit of variables has one for each
  pub in_table : variables_of b ≤ max_variables
  in_table = omega (arith, variables_are, variables_most (accepted limits b o.on.block))

  -- the group as it is lent
  module _ {p g : List ℤ} (cut : p ≡ prefix_of b) (taken : g ≡ take k p) where
    group_is_first : g ≡ take (first_group (prefix_of b)) (prefix_of b)
    group_is_first = taken ∙ rw (cut, o.group)

    -- its words are small, and there is room for them
    pub writable : {ls : List ℤ} → length ls ≡ length work.lits → Writable g ls
    writable {ls} e =
        let long = group_long b o.on.block in
        rw group_is_first (record {
          narrow = omega (arith, long, o.group, o.narrow);
          room = omega (arith, long, o.on.room.lits, group_within b o.on.block);
          small = λ i h. omega (arith, variables_are, group_word b o.on.block i h);
        })

    -- wiped, and then the values put at the start
    pub begun : (n : ℕ) {v : ℕ} {blank : Trail} {ls : List ℤ} → v ≡ variables_of b → blank ≡ wiped_trail work 0 v → ls ≡ sets blank.lits 0 (values_of n g)
        → search (trail ls blank.kinds) k Open ≡ opening_start (formula_of b) work n
    unfolding opening_start formula_of
    begun n e w s =
        let v = prefix_length (accepted limits b o.on.block) in
        rw (s, group_is_first, w, e, v, o.group)

  -- the record that it starts from passes row 12
  module _ (n : ℕ) {work' : Trail} (e : search work' k Open ≡ opening_start (formula_of b) work n) where
    pub searchable : OnBlock limits b work' k
    unfolding formula_of
    searchable = record {
      block = o.on.block;
      kept = subst (λ t. KeptIn (prefix_of b) t) (sym e) (starts (formula_of b) (accepted_binds limits b o.on.block) work n (rw (prefix_length (accepted limits b o.on.block)) o.on.room)).kept;
    }

    pub searched : (preferred : List ℤ) (budget : ℕ) {u : Search} {m : ℕ} → trip u m ≡ run_from (formula_of b) preferred budget (search work' k Open) 0 → u ≡ opening_search (formula_of b) preferred budget work n
    searched preferred budget f = ap (λ t. t.reached) f ∙ ap (λ t. (run_from (formula_of b) preferred budget t 0).reached) e
