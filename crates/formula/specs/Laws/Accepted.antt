-- What an accepted block is, row by row and place by place: for whoever works on a block that was checked.
use Rattle.std.specs.Prelude.{◌≡◌, refl, false, List, ◌+◌, ◌≤◌, ◌<◌, eqb, ℤ, pos, length}
use Rattle.std.proofs.Math.Bool.{true}
use Rattle.std.proofs.Common.{arith, ltb-false, lt-ltb, eqb-true}
use Rattle.std.proofs.lemmas.Bool.{not-false}
use Rattle.words.specs.Laws.Bools.{to_false}
use Rattle.words.specs.Lists.{any}
use Rattle.words.specs.Laws.Rows.{passed}
use Rattle.words.specs.Words.{negative, mem}
use Rattle.words.specs.Laws.Words.{mem_e}
use Rattle.formula.specs.Limits.{Limits}
use Rattle.formula.specs.Formula.{word, variables_of, clause_count_of, literal_count_of, prefix_of, ends_of, literals_of, clauses_from, formula_of}
use Rattle.formula.specs.Block.{no_variable, twice, bad_ends, both_signs, repeats, rows, refusal}
use Rattle.formula.specs.Inner.Named.{AllNamed}
use Rattle.formula.specs.Laws.Named.{in_named, all_named}
use Rattle.formula.specs.Laws.Layout as layout
use Rattle.formula.specs.Proper.{Proper}

pub record Accepted (L : Limits) (b : List ℤ) : Type 0 where
  -- 1 to 4: the header
  pub long : 6 ≤ length b
  pub counts : layout.Counts L b
  pub offsets : layout.Offsets b
  pub whole : length b ≡ 6 + variables_of b + clause_count_of b + literal_count_of b
  -- 5 to 7: the prefix
  pub known : any (no_variable (variables_of b)) (prefix_of b) ≡ false
  pub once : twice (prefix_of b) ≡ false
  pub last : 0 < variables_of b → negative (word b (5 + variables_of b)) ≡ false
  -- 8 to 10 and 23: the clauses
  pub ends : bad_ends (literal_count_of b) 0 (ends_of b) ≡ false
  pub literals : any (no_variable (variables_of b)) (literals_of b) ≡ false
  pub plain : any both_signs (clauses_from (literals_of b) 0 (ends_of b)) ≡ false
  pub single : any repeats (clauses_from (literals_of b) 0 (ends_of b)) ≡ false

pub accepted : (L : Limits) (b : List ℤ) → refusal L b ≡ 0 → Accepted L b
unfolding refusal
accepted L b e =
    let p = passed (rows L b) refl e in
    record {
      long = ltb-false (length b) 6 (p 1);
      counts = layout.good_counts L b (p 2);
      offsets = layout.good_offsets b (p 3);
      whole = eqb-true (length b) (6 + variables_of b + clause_count_of b + literal_count_of b) (not-false (eqb (length b) (6 + variables_of b + clause_count_of b + literal_count_of b)) (p 4));
      known = p 5;
      once = p 6;
      last = λ h. rw (lt-ltb 0 (variables_of b) h) at (p 7);
      ends = p 8;
      literals = p 9;
      plain = p 10;
      single = p 23;
    }

module _ {L : Limits} {b : List ℤ} (a : Accepted L b) where
  -- the counts are within the limits, and each part is as long as its count
  pub variables_most : variables_of b ≤ L.variables
  variables_most = a.counts.variables.most

  pub prefix_length : length (prefix_of b) ≡ variables_of b
  prefix_length = layout.prefix_length b a.whole

  pub literals_length : length (literals_of b) ≡ literal_count_of b
  literals_length = layout.literals_length b a.whole

  -- every prefix word names one of the V variables
  pub prefix_named : AllNamed (variables_of b) (prefix_of b)
  prefix_named = all_named (variables_of b) (prefix_of b) a.known

  -- what the theory of the rules asks
  is_proper : Proper (formula_of b)
  unfolding formula_of
  is_proper = record { named = to_false _ zero_nowhere; once = a.once; plain = a.plain }
    where
      zero_nowhere : mem (pos 0) (prefix_of b) ≡ true → ⊥
      zero_nowhere e = let r = in_named (variables_of b) (prefix_of b) a.known (mem_e (pos 0) (prefix_of b) e) in omega (arith, r.some)

pub proper : (L : Limits) (b : List ℤ) → refusal L b ≡ 0 → Proper (formula_of b)
proper L b e = is_proper (accepted L b e)
