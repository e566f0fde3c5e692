-- The ways out at a text's end, each with the tests that led there: a row of the counts, a row of the bound words, or the block's own answer; and what
-- is left in the output by the answer.
use Rattle.std.specs.Prelude.{◌≡◌, ◌||◌, ℕ, ◌+◌, ◌-◌, ◌≤◌, min, ltb, ℤ, zero, suc, Ok, Err, IfOk}
use Rattle.std.proofs.Math.Path.{refl, sym, ap}
use Rattle.std.proofs.Common.{◌∙◌, arith, take-append-drop, length-drop, drop-drop, drop_of_length-le, append-nil, ltb-false}
use mathlib.Core.List.{List, ◌++◌, append_assoc}
use Rattle.std.proofs.Math.ListN.{length, take, drop}
use Rattle.std.proofs.Math.Seq.{sets, sets-eq, length-sets, length-take-le, take_at}
use Rattle.std.specs.Result.{result_unwrap_or}
use borrow.Rule.Slice.PartMut.{put_mid}
use Rattle.words.specs.Laws.Bools.{or_fl, or_fr}
use Rattle.words.specs.Lists.{any}
use Rattle.words.specs.declared.Refusal.{Refusal}
use Rattle.words.specs.Rows.{Row, refusal_of}
use Rattle.words.specs.Laws.Rows.{passed, goes_on}
use Rattle.words.specs.Outcomes.{Outcome, outcome, unless, by_row, both_same}
use Rattle.formula.specs.Limits.{limits}
use Rattle.formula.specs.Block.{no_variable, twice, rows, refusal}
use Rattle.formula.specs.Check.{checked_of}
use Rattle.formula.specs.Laws.Check.{checked_accepted, checked_stops}
use Rattle.reader.specs.declared.Kept.{Kept}
use Rattle.text.specs.declared.Unread.{Unread}
use Rattle.text.specs.declared.Unread.TheVariants.{Refused, Row as AtRow}
use Rattle.laid.specs.Block.{completed, header, laid, laid_in}
use Rattle.text.specs.Tree.{Reading, text_refused, block_refused, count_rows, zeros, filled}
use Rattle.text.specs.Pieces.{kept_words, kept_ends, kept_literals, kept_block, kept_row, settled}
use Rattle.laid.specs.Inner.Ready.{Ready}
use Rattle.text.specs.Inner.Ending.{bound_rows}
use Rattle.laid.specs.Laws.Stores.{drop_sets}
use Rattle.laid.specs.Laws.Completed.{completed_length}
use Rattle.laid.specs.Laws.Parts.{laid_length}

-- what is written behind the first n words stands there alone
behind_all : (n : ℕ) (l b : List ℤ) → n ≤ length l → put_mid n (length l - n) l b ≡ take n l ++ b
behind_all n l b h =
    let e : length l ≤ n + (length l - n) = omega arith in
    rw (drop-drop (length l - n) n l, drop_of_length-le l e, append-nil b)

-- a text's answer in two tables: where neither has a row, and where one has
module _ (a c t : ℕ) (z m : List ℤ) where
  abbrev both : Outcome (List ℤ) Reading
  both = unless text_refused a z (unless block_refused c z (outcome (Ok t) m))

some : (a c t : ℕ) (z m : List ℤ) (j : ℕ) → Ok j ≡ (both a c t z m).answer → both a c t z m ≡ outcome (Ok j) m
some zero zero t z m j e = both_same (sym e) refl
some zero (suc c) t z m j e = absurd cc
some (suc a) c t z m j e = absurd cc

none : (a c t : ℕ) (z m : List ℤ) (u : Unread) → Err u ≡ (both a c t z m).answer → both a c t z m ≡ outcome (Err u) z
none zero zero t z m u e = absurd cc
none zero (suc c) t z m u e = both_same (sym e) refl
none (suc a) c t z m u e = both_same (sym e) refl

regroup : (a b c d e : List ℤ) → a ++ (b ++ (c ++ (d ++ e))) ≡ a ++ b ++ c ++ d ++ e
regroup a b c d e = sym (simp append_assoc)

-- a check's number is what a table's answer tells
module _ {M A : Type 0} (say : Refusal → A) where
  stopped : (n : ℕ) (m : M) (u : Outcome M A) (e : Refusal) → Err e ≡ checked_of n → say e ≡ (unless (λ j. say (by_row j)) n m u).answer
  unfolding checked_of
  stopped zero m u e is = absurd cc
  stopped (suc n) m u e is = let f : e ≡ by_row (suc n) = cc in rw f

module _ (k : Kept) (o : List ℤ) where
  abbrev pub count_row : ℕ
  count_row = refusal_of (count_rows limits k.large k.variables k.count k.clauses k.literals (length o))

  -- ---- a row of the counts
  pub count_stops : (e : Refusal) → Err e ≡ checked_of count_row → Err (Refused e) ≡ (settled k o limits).answer
  unfolding settled
  count_stops e is = stopped (λ r. Err (Refused r)) count_row _ _ e is

  -- what they leave
  pub record Counted : Type 0 where
    pub variables : k.variables ≤ limits.variables
    pub clauses : k.clauses ≤ limits.clauses
    pub literals : k.literals ≤ limits.literals
    pub fits : 6 + k.variables + k.clauses + k.literals ≤ length o

  pub counted : count_row ≡ 0 → Counted
  counted e =
      let v = ltb limits.variables k.variables in
      let c = ltb limits.clauses k.clauses in
      let t = ltb limits.literals k.literals in
      let p = passed (count_rows limits k.large k.variables k.count k.clauses k.literals (length o)) refl e in
      record {
        variables = ltb-false limits.variables k.variables (or_fl v c (or_fl (v || c) t (p 29)));
        clauses = ltb-false limits.clauses k.clauses (or_fr v c (or_fl (v || c) t (p 29)));
        literals = ltb-false limits.literals k.literals (or_fr (v || c) t (p 29));
        fits = ltb-false (length o) (6 + k.variables + k.clauses + k.literals) (p 30);
      }

  -- ---- a row of the bound words
  abbrev pub word_rows : List Row
  word_rows = bound_rows k (kept_words k o)

  pub word_stops : count_row ≡ 0 → (e : Refusal) → Err e ≡ checked_of (refusal_of word_rows) → Err (AtRow e) ≡ (settled k o limits).answer
  unfolding settled kept_row
  word_stops z e is = rw z (stopped (λ r. Err (AtRow r)) _ _ _ e (checked_stops word_rows (rows limits (kept_block k o)) e is))

  -- what they leave
  abbrev pub bound : ℕ
  bound = min k.bound k.variables

  pub ready : count_row ≡ 0 → refusal_of (bound_rows k (kept_words k o)) ≡ 0 → Ready o k.variables bound (6 + k.variables + k.clauses) k.literals
  unfolding kept_words
  ready z e =
      let c = counted z in
      let p = passed (bound_rows k (kept_words k o)) refl e in
      record {
        few = c.variables;
        words = omega arith;
        prefix = omega (arith, c.fits);
        literals = c.fits;
        known = or_fr k.over (any (no_variable k.variables) (kept_words k o)) (p 5);
        once = or_fr (ltb k.variables k.bound) (twice (kept_words k o)) (p 6);
      }

  -- ---- the block, and what stands behind it
  module _ (z : count_row ≡ 0) (e : refusal_of (bound_rows k (kept_words k o)) ≡ 0) where
    abbrev prefix : List ℤ
    prefix = completed k.variables (kept_words k o) (kept_literals k o)

    abbrev total : ℕ
    total = 6 + k.variables + k.clauses + k.literals

    long : length prefix ≡ k.variables
    unfolding kept_words
    long = let r = ready z e in completed_length k.variables (kept_words k o) (kept_literals k o) r.known r.once

    ends_long : length (kept_ends k o) ≡ k.clauses
    unfolding kept_ends
    ends_long = length-take-le k.clauses (drop (6 + k.variables) o) (rw (length-drop (6 + k.variables) o) (omega (arith, (counted z).fits)))

    literals_long : length (kept_literals k o) ≡ k.literals
    unfolding kept_literals
    literals_long = length-take-le k.literals (drop (6 + k.variables + k.clauses) o) (rw (length-drop (6 + k.variables + k.clauses) o) (omega (arith, (counted z).fits)))

    -- the words behind the prefix: ends, literals, the rest
    behind : drop (6 + k.variables) o ≡ kept_ends k o ++ (kept_literals k o ++ drop total o)
    unfolding kept_ends kept_literals
    behind =
        let v = 6 + k.variables in
        let c = k.clauses in
        let t = k.literals in
        sym (take-append-drop c (drop v o)) ∙ rw (drop-drop c v o) (ap (λ (x : List ℤ). take c (drop v o) ++ x) (sym (take-append-drop t (drop (v + c) o)) ∙ rw (drop-drop t (v + c) o)))

    laid_whole : laid_in o k.variables bound k.clauses k.literals ≡ kept_block k o ++ drop total o
    unfolding laid_in kept_block laid kept_words kept_literals
    laid_whole =
        let v = k.variables in
        let h = header v k.clauses k.literals in
        let x = sets o 6 prefix in
        let room : 6 ≤ length x = rw (length-sets o 6 prefix) (omega (arith, (counted z).fits)) in
        let fits : 6 + length prefix ≤ length o = omega (arith, long, (counted z).fits) in
        let front : sets x 0 h ≡ h ++ drop 6 x = sets-eq h x 0 room in
        let back : drop 6 x ≡ prefix ++ drop (6 + v) o = drop_sets prefix o 6 fits ∙ ap (λ (n : ℕ). prefix ++ drop (6 + n) o) long in
        rw (ends_long, literals_long)
        (front ∙ ap (λ (y : List ℤ). h ++ y) (back ∙ ap (λ (y : List ℤ). prefix ++ y) behind) ∙ regroup h prefix (kept_ends k o) (kept_literals k o) (drop total o))

    block_long : length (kept_block k o) ≡ total
    unfolding kept_block
    block_long = laid_length k.variables (kept_words k o) (kept_ends k o) (kept_literals k o) long ∙ rw (ends_long, literals_long)

    pub block_here : take total (laid_in o k.variables bound k.clauses k.literals) ≡ kept_block k o
    block_here = ap (take total) laid_whole ∙ take_at (kept_block k o) (drop total o) total block_long

    -- the block's own row
    row_here : kept_row k o limits ≡ refusal limits (kept_block k o)
    unfolding kept_row refusal
    row_here = goes_on word_rows (rows limits (kept_block k o)) refl e

    pub block_stops : (f : Refusal) → Err f ≡ checked_of (refusal limits (kept_block k o)) → Err (AtRow f) ≡ (settled k o limits).answer
    unfolding settled
    block_stops f is = rw (z, row_here) (stopped (λ r. Err (AtRow r)) _ _ _ f is)

    pub block_passes : (u : Unit {0}) → Ok u ≡ checked_of (refusal limits (kept_block k o)) → Ok total ≡ (settled k o limits).answer
    unfolding settled
    block_passes u is = rw (z, row_here, checked_accepted (refusal limits (kept_block k o)) u is)

  -- ---- what is left in the output, by the answer
  pub left : (r : Reading) (o' b : List ℤ) (n : ℕ) → r ≡ (settled k o limits).answer → n ≡ result_unwrap_or r 0 → length o' ≡ length o
      → IfOk r (λ j. j ≤ length o') → IfOk r (λ j. take j o' ≡ kept_block k o) → b ≡ zeros (length o' - n)
      → outcome r (put_mid n (length o' - n) o' b) ≡ settled k o limits
  unfolding settled
  left (Ok j) o' b n is stays same fits front wiped =
      let long : length (kept_block k o) ≡ j = rw (← front) (length-take-le j o' fits) in
      let rest : put_mid j (length o' - j) o' (zeros (length o' - j)) ≡ filled (kept_block k o) o = rw (behind_all j o' _ fits, front, long, same) in
      rw (wiped, stays) (both_same refl rest ∙ sym (some count_row (kept_row k o limits) _ _ _ j is))
  left (Err e) o' b n is stays same fits front wiped =
      let zero : length o' - 0 ≡ length o = omega (arith, same) in
      let rest : put_mid 0 (length o' - 0) o' (zeros (length o' - 0)) ≡ zeros (length o) = rw (behind_all 0 o' _ (omega arith), zero) in
      rw (wiped, stays) (both_same refl rest ∙ sym (none count_row (kept_row k o limits) _ _ _ e is))
