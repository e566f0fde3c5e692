-- Cases of docs/SPEC.md as texts, by computation, in an output that holds sevens before.
use Rattle.std.specs.Prelude.{◌≡◌, refl, List, [], ◌∷◌, ℕ, ℤ, pos, negsuc, replicate, Result, Ok}
use Rattle.words.specs.Lists.{any}
use Rattle.words.specs.Words.{eq_z, mem}
use Rattle.words.specs.declared.Refusal.{Refusal}
use Rattle.words.specs.Outcomes.{outcome, refused}
use Rattle.formula.specs.Limits.{limits}
use Rattle.formula.specs.Formula.{clauses_from, formula_of}
use Rattle.formula.specs.Block.{twice, bad_ends, both_signs, repeats}
use Rattle.grammar.specs.Written.{digits_of, numeral, literal, line, problem_line, group_lines, clause_lines, written}
use Rattle.writer.specs.Write.{last_of_group, groups_of, tree_of, written_of, write_refusal, write_of}

-- ---- blocks as texts, with room for n bytes
unfoldable Writes : List ℤ → ℕ → Result ℕ Refusal → List ℕ → Type 0
Writes b n a o = write_of limits b (replicate n 7) ≡ outcome a o

-- case A
--     `p cnf 4 5\ne 1 0\na 2 0\ne 3 4 0\n-1 -2 3 0\n-2 -3 0\n3 4 0\n1 -2 -4 0\n2 3 -4 0\n`
written_a : Writes (pos 4 ∷ pos 5 ∷ pos 13 ∷ pos 6 ∷ pos 10 ∷ pos 15 ∷ pos 1 ∷ negsuc 1 ∷ pos 3 ∷ pos 4 ∷ pos 3 ∷ pos 5 ∷ pos 7 ∷ pos 10 ∷ pos 13 ∷ negsuc 0 ∷ negsuc 1 ∷ pos 3 ∷ negsuc 1 ∷ negsuc 2 ∷ pos 3 ∷ pos 4 ∷ pos 1 ∷ negsuc 1 ∷ negsuc 3 ∷ pos 2 ∷ pos 3 ∷ negsuc 3 ∷ []) 73 (Ok 73) (112 ∷ 32 ∷ 99 ∷ 110 ∷ 102 ∷ 32 ∷ 52 ∷ 32 ∷ 53 ∷ 10 ∷ 101 ∷ 32 ∷ 49 ∷ 32 ∷ 48 ∷ 10 ∷ 97 ∷ 32 ∷ 50 ∷ 32 ∷ 48 ∷ 10 ∷ 101 ∷ 32 ∷ 51 ∷ 32 ∷ 52 ∷ 32 ∷ 48 ∷ 10 ∷ 45 ∷ 49 ∷ 32 ∷ 45 ∷ 50 ∷ 32 ∷ 51 ∷ 32 ∷ 48 ∷ 10 ∷ 45 ∷ 50 ∷ 32 ∷ 45 ∷ 51 ∷ 32 ∷ 48 ∷ 10 ∷ 51 ∷ 32 ∷ 52 ∷ 32 ∷ 48 ∷ 10 ∷ 49 ∷ 32 ∷ 45 ∷ 50 ∷ 32 ∷ 45 ∷ 52 ∷ 32 ∷ 48 ∷ 10 ∷ 50 ∷ 32 ∷ 51 ∷ 32 ∷ 45 ∷ 52 ∷ 32 ∷ 48 ∷ 10 ∷ [])
unfolding Writes limits write_of write_refusal written_of tree_of groups_of last_of_group formula_of clauses_from written problem_line group_lines clause_lines line literal numeral digits_of bad_ends any twice both_signs repeats mem eq_z
written_a = refl

-- case B, with two bytes behind it, which stay, and with one too few
--     `p cnf 2 2\na 1 0\ne 2 0\n2 -1 0\n-2 1 0\n`
written_b : Writes (pos 2 ∷ pos 2 ∷ pos 4 ∷ pos 6 ∷ pos 8 ∷ pos 10 ∷ negsuc 0 ∷ pos 2 ∷ pos 2 ∷ pos 4 ∷ pos 2 ∷ negsuc 0 ∷ negsuc 1 ∷ pos 1 ∷ []) 38 (Ok 36) (112 ∷ 32 ∷ 99 ∷ 110 ∷ 102 ∷ 32 ∷ 50 ∷ 32 ∷ 50 ∷ 10 ∷ 97 ∷ 32 ∷ 49 ∷ 32 ∷ 48 ∷ 10 ∷ 101 ∷ 32 ∷ 50 ∷ 32 ∷ 48 ∷ 10 ∷ 50 ∷ 32 ∷ 45 ∷ 49 ∷ 32 ∷ 48 ∷ 10 ∷ 45 ∷ 50 ∷ 32 ∷ 49 ∷ 32 ∷ 48 ∷ 10 ∷ 7 ∷ 7 ∷ [])
    × Writes (pos 2 ∷ pos 2 ∷ pos 4 ∷ pos 6 ∷ pos 8 ∷ pos 10 ∷ negsuc 0 ∷ pos 2 ∷ pos 2 ∷ pos 4 ∷ pos 2 ∷ negsuc 0 ∷ negsuc 1 ∷ pos 1 ∷ []) 35 (refused 30) (7 ∷ 7 ∷ 7 ∷ 7 ∷ 7 ∷ 7 ∷ 7 ∷ 7 ∷ 7 ∷ 7 ∷ 7 ∷ 7 ∷ 7 ∷ 7 ∷ 7 ∷ 7 ∷ 7 ∷ 7 ∷ 7 ∷ 7 ∷ 7 ∷ 7 ∷ 7 ∷ 7 ∷ 7 ∷ 7 ∷ 7 ∷ 7 ∷ 7 ∷ 7 ∷ 7 ∷ 7 ∷ 7 ∷ 7 ∷ 7 ∷ [])
unfolding Writes limits write_of write_refusal written_of tree_of groups_of last_of_group formula_of clauses_from written problem_line group_lines clause_lines line literal numeral digits_of bad_ends any twice both_signs repeats mem eq_z
written_b = (refl, refl)

-- cases E and F: no variables, and no clause or an empty one
--     `p cnf 0 0\n`
--     `p cnf 0 1\n0\n`
written_e : Writes (pos 0 ∷ pos 0 ∷ pos 0 ∷ pos 6 ∷ pos 6 ∷ pos 6 ∷ []) 11 (Ok 10) (112 ∷ 32 ∷ 99 ∷ 110 ∷ 102 ∷ 32 ∷ 48 ∷ 32 ∷ 48 ∷ 10 ∷ 7 ∷ [])
    × Writes (pos 0 ∷ pos 1 ∷ pos 0 ∷ pos 6 ∷ pos 6 ∷ pos 7 ∷ pos 0 ∷ []) 13 (Ok 12) (112 ∷ 32 ∷ 99 ∷ 110 ∷ 102 ∷ 32 ∷ 48 ∷ 32 ∷ 49 ∷ 10 ∷ 48 ∷ 10 ∷ 7 ∷ [])
unfolding Writes limits write_of write_refusal written_of tree_of groups_of last_of_group formula_of clauses_from written problem_line group_lines clause_lines line literal numeral digits_of bad_ends any twice both_signs repeats mem eq_z
written_e = (refl, refl)

-- case G: two variables in one group
--     `p cnf 4 3\ne 1 2 0\na 3 0\ne 4 0\n1 2 0\n-3 4 0\n3 -4 0\n`
written_g : Writes (pos 4 ∷ pos 3 ∷ pos 6 ∷ pos 6 ∷ pos 10 ∷ pos 13 ∷ pos 1 ∷ pos 2 ∷ negsuc 2 ∷ pos 4 ∷ pos 2 ∷ pos 4 ∷ pos 6 ∷ pos 1 ∷ pos 2 ∷ negsuc 2 ∷ pos 4 ∷ pos 3 ∷ negsuc 3 ∷ []) 51 (Ok 50) (112 ∷ 32 ∷ 99 ∷ 110 ∷ 102 ∷ 32 ∷ 52 ∷ 32 ∷ 51 ∷ 10 ∷ 101 ∷ 32 ∷ 49 ∷ 32 ∷ 50 ∷ 32 ∷ 48 ∷ 10 ∷ 97 ∷ 32 ∷ 51 ∷ 32 ∷ 48 ∷ 10 ∷ 101 ∷ 32 ∷ 52 ∷ 32 ∷ 48 ∷ 10 ∷ 49 ∷ 32 ∷ 50 ∷ 32 ∷ 48 ∷ 10 ∷ 45 ∷ 51 ∷ 32 ∷ 52 ∷ 32 ∷ 48 ∷ 10 ∷ 51 ∷ 32 ∷ 45 ∷ 52 ∷ 32 ∷ 48 ∷ 10 ∷ 7 ∷ [])
unfolding Writes limits write_of write_refusal written_of tree_of groups_of last_of_group formula_of clauses_from written problem_line group_lines clause_lines line literal numeral digits_of bad_ends any twice both_signs repeats mem eq_z
written_g = refl

-- cases C, O and N: 7, 10 and 23 come before 30, and the output stays
written_not : Writes (pos 2 ∷ pos 2 ∷ pos 4 ∷ pos 6 ∷ pos 8 ∷ pos 10 ∷ pos 1 ∷ negsuc 1 ∷ pos 2 ∷ pos 4 ∷ pos 2 ∷ negsuc 0 ∷ negsuc 1 ∷ pos 1 ∷ []) 0 (refused 7) []
    × Writes (pos 2 ∷ pos 2 ∷ pos 4 ∷ pos 6 ∷ pos 8 ∷ pos 10 ∷ pos 1 ∷ pos 2 ∷ pos 2 ∷ pos 4 ∷ pos 1 ∷ pos 1 ∷ pos 2 ∷ negsuc 1 ∷ []) 1 (refused 10) (7 ∷ [])
    × Writes (pos 2 ∷ pos 2 ∷ pos 4 ∷ pos 6 ∷ pos 8 ∷ pos 10 ∷ pos 1 ∷ pos 2 ∷ pos 2 ∷ pos 4 ∷ pos 1 ∷ pos 1 ∷ pos 2 ∷ negsuc 0 ∷ []) 1 (refused 23) (7 ∷ [])
unfolding Writes limits write_of write_refusal written_of tree_of groups_of last_of_group formula_of clauses_from written problem_line group_lines clause_lines line literal numeral digits_of bad_ends any twice both_signs repeats mem eq_z
written_not = (refl, refl, refl)
