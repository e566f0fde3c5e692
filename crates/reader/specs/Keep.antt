-- What is kept of a text: what each event does to it and to the output. For any output.
use Rattle.std.specs.Prelude.{ℕ, suc, ◌+◌, min, Bool, true, false, cond, ◌||◌, List, [], ◌∷◌, ltb, ℤ, pos, negsuc, set}
use Rattle.words.specs.Outcomes.{Outcome, outcome}
use Rattle.formula.specs.Block.{no_variable}
use Rattle.grammar.specs.Grammar.{Quantifier, forall, exists}
use Rattle.grammar.specs.Machine.{Event, announces, counts, opens, binds, holds, ends, signed}
use Rattle.reader.specs.declared.Kept.{Kept}

-- [text.prefix] a bound number as a word: below 0 for a universal one
abbrev pub is_forall : Quantifier → Bool
is_forall forall = true
is_forall exists = false

-- [row.28] below -2^31, or over 2^31 - 1
unfoldable pub beyond : ℤ → Bool
beyond (pos n) = ltb 2147483647 n
beyond (negsuc n) = ltb 2147483647 n

-- a number of any length in 32 bits: past 2^31 all count as one
unfoldable pub capped : ℕ → ℕ
capped n = min n 2147483649

-- the word that is stored; one that is beyond 32 signed bits is noted, and 0 stands for it
unfoldable pub stored : Bool → ℤ → ℤ
stored large w = cond large (pos 0) w

-- ---- one event
unfoldable pub keep : Kept → List ℤ → Event → Outcome (List ℤ) Kept
keep k o (announces n) = outcome (record k { variables = capped n; large = k.large || beyond (pos (capped n)) }) o
keep k o (counts n) = outcome (record k { count = capped n; large = k.large || beyond (pos (capped n)) }) o
keep k o (opens q) = outcome (record k { universal = is_forall q }) o
keep k o (binds n) = outcome (record k {
  bound = capped (suc k.bound);
  large = k.large || beyond (pos (capped n));
  over = k.over || no_variable k.variables (pos (capped n));
}) (set o (6 + k.bound) (stored (beyond (pos (capped n))) (signed k.universal (capped n))))
keep k o (holds l) = outcome (record k { literals = capped (suc k.literals); large = k.large || beyond l }) (set o (6 + k.variables + k.count + k.literals) (stored (beyond l) l))
keep k o ends = outcome (record k { clauses = capped (suc k.clauses) }) (set o (6 + k.variables + k.clauses) (stored (beyond (pos k.literals)) (pos k.literals)))

unfoldable pub keeps : Kept → List ℤ → List Event → Outcome (List ℤ) Kept
keeps k o [] = outcome k o
keeps k o (e ∷ es) = keeps (keep k o e).answer (keep k o e).memory es
