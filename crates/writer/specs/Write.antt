-- [write] A block written as a text: the tree of its formula, the bytes, and the whole call.
use Rattle.std.specs.Prelude.{Bool, true, not, cond, List, [], ◌∷◌, ◌++◌, ℕ, ltb, ℤ, pos, negsuc, nat_abs, length, drop, Result, Ok}
use Rattle.std.specs.Bool.{beq}
use Rattle.words.specs.Rows.{Row, row, refusal_of}
use Rattle.words.specs.Words.{negative}
use Rattle.words.specs.declared.Refusal.{Refusal}
use Rattle.words.specs.Outcomes.{Outcome, outcome, unless, refused}
use Rattle.formula.specs.Limits.{Limits}
use Rattle.formula.specs.Formula.{Formula, formula_of}
use Rattle.formula.specs.Block.{rows}
use Rattle.grammar.specs.Grammar.{Quantifier, forall, exists, Group, Text}
use Rattle.grammar.specs.Written.{written}

-- ---- the tree of a formula
abbrev pub quantifier_of : ℤ → Quantifier
quantifier_of (pos n) = exists
quantifier_of (negsuc n) = forall

-- [write.groups] the word w is the last of its group, ws being those behind it
unfoldable pub last_of_group : ℤ → List ℤ → Bool
last_of_group w [] = true
last_of_group w (v ∷ ws) = not (beq (negative w) (negative v))

-- one number more in the first group
abbrev pub into_group : ℕ → List Group → List Group
into_group n [] = []
into_group n (g ∷ gs) = record { quantifier = g.quantifier; numbers = n ∷ g.numbers } ∷ gs

unfoldable pub groups_of : List ℤ → List Group
groups_of [] = []
groups_of (w ∷ ws) = cond (last_of_group w ws) (record { quantifier = quantifier_of w; numbers = nat_abs w ∷ [] } ∷ groups_of ws) (into_group (nat_abs w) (groups_of ws))

unfoldable pub tree_of : Formula → Text
tree_of F = record { variables = length F.prefix; count = length F.clauses; groups = groups_of F.prefix; clauses = F.clauses }

-- ---- [write] the text of a block
unfoldable pub written_of : List ℤ → List ℕ
written_of b = written (tree_of (formula_of b))

-- [calls.write] the block's rows, then [write.room] too little room for the text
abbrev pub write_rows : Limits → List ℤ → ℕ → List Row
write_rows L b room = rows L b ++ (row 30 (ltb room (length (written_of b))) ∷ [])

unfoldable pub write_refusal : Limits → List ℤ → ℕ → ℕ
write_refusal L b room = refusal_of (write_rows L b room)

-- [write.leaves] the text in the first bytes, and behind it what was there
abbrev pub before : List ℕ → List ℕ → List ℕ
before bs o = bs ++ drop (length bs) o

unfoldable pub write_of : Limits → List ℤ → List ℕ → Outcome (List ℕ) (Result ℕ Refusal)
write_of L b o = unless refused (write_refusal L b (length o)) o (outcome (Ok (length (written_of b))) (before (written_of b) o))
