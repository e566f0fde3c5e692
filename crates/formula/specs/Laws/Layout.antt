-- What the header's rows leave: the counts within their limits, the offsets, and three parts as long as they should be.
use Rattle.std.specs.Prelude.{◌≡◌, refl, false, ◌||◌, List, ℕ, ◌+◌, ◌-◌, ◌≤◌, ◌<◌, ℤ, pos, negsuc, nat_abs, length, get_or, take, drop}
use Rattle.std.proofs.Common.{◌∙◌, ap, arith, length-drop, length-take-le, get_or-take, get_or-drop, ltb-false}
use Rattle.std.proofs.lemmas.Bool.{not-false}
use Rattle.words.specs.Laws.Bools.{clash, or_fl, or_fr}
use Rattle.words.specs.Words.{eq_z}
use Rattle.words.specs.Laws.Words.{eq_z_eq}
use Rattle.formula.specs.Limits.{Limits}
use Rattle.formula.specs.Formula.{word, variables_of, clause_count_of, literal_count_of, prefix_of, literals_of}
use Rattle.formula.specs.Block.{bad_count, bad_counts, is_not, bad_offsets}

-- ---- row 2
-- a count up to a limit
pub record Count (limit : ℕ) (w : ℤ) : Type 0 where
  pub whole : w ≡ pos (nat_abs w)
  pub most : nat_abs w ≤ limit

pub good_count : (limit : ℕ) (w : ℤ) → bad_count limit w ≡ false → Count limit w
good_count limit (pos n) h = record { whole = refl; most = ltb-false limit n h }
good_count limit (negsuc n) h = clash refl h

pub record Counts (L : Limits) (b : List ℤ) : Type 0 where
  pub variables : Count L.variables (word b 0)
  pub clauses : Count L.clauses (word b 1)
  pub literals : Count L.literals (word b 2)

pub good_counts : (L : Limits) (b : List ℤ) → bad_counts L b ≡ false → Counts L b
good_counts L b h =
    let v = bad_count L.variables (word b 0) in
    let c = bad_count L.clauses (word b 1) in
    let t = bad_count L.literals (word b 2) in
    record {
      variables = good_count L.variables (word b 0) (or_fl v c (or_fl (v || c) t h));
      clauses = good_count L.clauses (word b 1) (or_fr v c (or_fl (v || c) t h));
      literals = good_count L.literals (word b 2) (or_fr (v || c) t h);
    }

-- ---- row 3
pub record Offsets (b : List ℤ) : Type 0 where
  pub prefix : word b 3 ≡ pos 6
  pub ends : word b 4 ≡ pos (6 + variables_of b)
  pub literals : word b 5 ≡ pos (6 + variables_of b + clause_count_of b)

is_number : (n : ℕ) (w : ℤ) → is_not n w ≡ false → w ≡ pos n
is_number n w h = eq_z_eq w (pos n) (not-false (eq_z w (pos n)) h)

pub good_offsets : (b : List ℤ) → bad_offsets b ≡ false → Offsets b
good_offsets b h =
    let p = is_not 6 (word b 3) in
    let e = is_not (6 + variables_of b) (word b 4) in
    let l = is_not (6 + variables_of b + clause_count_of b) (word b 5) in
    record {
      prefix = is_number 6 (word b 3) (or_fl p e (or_fl (p || e) l h));
      ends = is_number (6 + variables_of b) (word b 4) (or_fr p e (or_fl (p || e) l h));
      literals = is_number (6 + variables_of b + clause_count_of b) (word b 5) (or_fr (p || e) l h);
    }

-- ---- row 4
module _ (b : List ℤ) (whole : length b ≡ 6 + variables_of b + clause_count_of b + literal_count_of b) where
  -- n words from the i-th on, all within the block
  part : (n i : ℕ) → i + n ≤ length b → length (take n (drop i b)) ≡ n
  part n i h = length-take-le n (drop i b) (rw length-drop (omega arith))

  pub prefix_length : length (prefix_of b) ≡ variables_of b
  prefix_length = part (variables_of b) 6 (omega arith)

  pub literals_length : length (literals_of b) ≡ literal_count_of b
  literals_length = part (literal_count_of b) (6 + variables_of b + clause_count_of b) (omega arith)

-- ---- a word of the prefix where it stands in the block
prefix_at : (b : List ℤ) (i : ℕ) → i < variables_of b → get_or (prefix_of b) i (pos 0) ≡ word b (6 + i)
prefix_at b i h = get_or-take (variables_of b) (drop 6 b) i (pos 0) h ∙ get_or-drop 6 b i (pos 0)

-- row 7 is about the last word of the prefix
pub prefix_last : (b : List ℤ) → 0 < variables_of b → get_or (prefix_of b) (variables_of b - 1) (pos 0) ≡ word b (5 + variables_of b)
prefix_last b h =
    let place : 6 + (variables_of b - 1) ≡ 5 + variables_of b = omega arith in
    prefix_at b (variables_of b - 1) (omega arith) ∙ ap (word b) place
