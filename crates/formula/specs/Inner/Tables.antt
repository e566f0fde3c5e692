-- What the code's inner functions say to each other; a reader of `refusal` needs none of it.
use Rattle.std.specs.Prelude.{◌≡◌, Bool, Result, Ok, cond, ◌||◌, List, [], ◌∷◌, ℕ, ◌-◌, ◌<◌, ltb, ℤ, pos, nat_abs, length, get_or}
use Rattle.words.specs.declared.Refusal.{Refusal}
use Rattle.words.specs.Outcomes.{refused}
use Rattle.words.specs.Lists.{any}
use Rattle.words.specs.Rows.{Row, row}
use Rattle.words.specs.Words.{negative}
use Rattle.formula.specs.Formula.{clauses_from}
use Rattle.formula.specs.Block.{no_variable, twice, bad_ends, both_signs, repeats}
use Rattle.formula.specs.Inner.Places.{literal_places}

-- rows 5 to 10 and 23 of the three parts: the prefix, the ends and the literals
abbrev pub last_negative : List ℤ → Bool
last_negative p = negative (get_or p (length p - 1) (pos 0))

abbrev pub pair_rows : List (List ℤ) → List Row
pair_rows cs = row 10 (any both_signs cs) ∷ row 23 (any repeats cs) ∷ []

abbrev pub part_rows : List ℤ → List ℤ → List ℤ → List Row
part_rows p es ls =
    row 5 (any (no_variable (length p)) p)
    ∷ row 6 (twice p)
    ∷ row 7 (last_negative p)
    ∷ row 8 (bad_ends (length ls) 0 es)
    ∷ row 9 (any (no_variable (length p)) ls)
    ∷ pair_rows (clauses_from ls 0 es)

-- a word of size over n, or two of one size
abbrev pub repeated : ℕ → List ℤ → Bool
repeated n ws = any (λ w. ltb n (nat_abs w)) ws || twice ws

-- row 10 of one clause, and else whether row 23 applies to it
abbrev pub pair_of : List ℤ → Result Bool Refusal
pair_of c = cond (both_signs c) (refused 10) (Ok (repeats c))

-- a table by literal, in which no mark has the stamp yet, nor a later one
pub record Fresh (stamp : ℕ) (marks : List ℕ) : Type 0 where
  pub room : length marks ≡ literal_places
  pub under : (k : ℕ) → get_or marks k 0 < stamp
