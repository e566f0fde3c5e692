-- A block that is laid from its parts has these parts, and of its rows only 7, 9, 10 and 23 are left to apply: the header is right by its making, the
-- completed prefix names each variable once, and the ends are those of the clauses.
use Rattle.std.specs.Prelude.{◌≡◌, List, [], ◌∷◌, ℕ, suc, ◌+◌, ◌-◌, ◌≤◌, ◌<◌, ℤ, pos, get_or, drop}
use Rattle.std.proofs.Math.Path.{refl}
use Rattle.std.proofs.Common.{sym, ◌∙◌, ap, length-append, take_at, drop_at, drop-drop}
use Rattle.std.proofs.Math.Bool.{false}
use Rattle.std.proofs.Math.Decide.{dec_le}
use native.Mathlib.Omega.{arith}
use Rattle.std.proofs.Math.ListN.{length, get_or-eq_default}
use borrow.Author.Tests.{le-ltb, lt-ltb, eq-eqb}
use Rattle.words.specs.Lists.{any}
use Rattle.words.specs.Rows.{row, refusal_of}
use Rattle.words.specs.Words.{negative}
use Rattle.words.specs.Laws.Words.{eq_z_refl}
use Rattle.formula.specs.Limits.{Limits}
use Rattle.formula.specs.Formula.{variables_of, literal_count_of, prefix_of, clauses_from, formula_of}
use Rattle.formula.specs.Formula as block
use Rattle.formula.specs.Block.{no_variable, twice, bad_counts, bad_offsets, bad_length, bad_last, bad_ends, both_signs, repeats, refusal}
use Rattle.formula.specs.Laws.Layout.{prefix_last}
use Rattle.laid.specs.Block.{completed, laid}
use Rattle.text.specs.Tree.{literals_of, ends_of, last_universal}
use Rattle.laid.specs.Laws.Parts.{laid_prefix, laid_ends, laid_literals, laid_length}
use Rattle.laid.specs.Laws.Completed.{completed_length, completed_known, completed_once}

-- ---- the clauses by their ends
pub ends_length : (n : ℕ) (cs : List (List ℤ)) → length (ends_of n cs) ≡ length cs
unfolding ends_of
ends_length n [] = refl
ends_length n (c ∷ cs) = ap suc (ends_length (n + length c) cs)

clauses_are : (cs : List (List ℤ)) (ls : List ℤ) (n : ℕ) → drop n ls ≡ literals_of cs → clauses_from ls n (ends_of n cs) ≡ cs
unfolding clauses_from ends_of literals_of
clauses_are [] ls n h = refl
clauses_are (c ∷ cs) ls n h =
    let e : n + length c - n ≡ length c = omega arith in
    let rest : drop (n + length c) ls ≡ literals_of cs = sym (drop-drop (length c) n ls) ∙ ap (drop (length c)) h ∙ drop_at c (literals_of cs) (length c) refl in
    rw (e, h, take_at c (literals_of cs) (length c) refl, clauses_are cs ls (n + length c) rest)

ends_good : (cs : List (List ℤ)) (total n : ℕ) → n + length (literals_of cs) ≡ total → bad_ends total n (ends_of n cs) ≡ false
unfolding bad_ends ends_of literals_of
ends_good [] total n h = let e : n ≡ total = omega arith in rw (eq-eqb n total e)
ends_good (c ∷ cs) total n h =
    let k : n + (length c + length (literals_of cs)) ≡ total = rw (length-append c (literals_of cs)) at h in
    rw (le-ltb (n + length c) n (omega arith), le-ltb total (n + length c) (omega arith)) (ends_good cs total (n + length c) (omega arith))

-- ---- of a tree's clauses
module _ (n : ℕ) (ws : List ℤ) (cs : List (List ℤ)) where
  abbrev pub tree_block : List ℤ
  tree_block = laid n ws (ends_of 0 cs) (literals_of cs)

  module _ (known : any (no_variable n) ws ≡ false) (once : twice ws ≡ false) where
    long : length (completed n ws (literals_of cs)) ≡ n
    long = completed_length n ws (literals_of cs) known once

    clauses_here : clauses_from (block.literals_of tree_block) 0 (block.ends_of tree_block) ≡ cs
    clauses_here = rw (laid_literals n ws (ends_of 0 cs) (literals_of cs) long, laid_ends n ws (ends_of 0 cs) (literals_of cs) long) (clauses_are cs (literals_of cs) 0 refl)

    -- the formula of the block
    pub tree_formula : formula_of tree_block ≡ record { prefix = completed n ws (literals_of cs); clauses = cs }
    unfolding formula_of
    tree_formula = rw (clauses_here, laid_prefix n ws (ends_of 0 cs) (literals_of cs) long)

    tree_length : length tree_block ≡ 6 + n + length cs + length (literals_of cs)
    tree_length = rw (← ends_length 0 cs) (laid_length n ws (ends_of 0 cs) (literals_of cs) long)

    counts_good : (L : Limits) → n ≤ L.variables → length cs ≤ L.clauses → length (literals_of cs) ≤ L.literals → bad_counts L tree_block ≡ false
    unfolding laid
    counts_good L v c t = rw (ends_length 0 cs, le-ltb L.variables n v, le-ltb L.clauses (length cs) c, le-ltb L.literals (length (literals_of cs)) t)

    offsets_good : bad_offsets tree_block ≡ false
    unfolding laid
    offsets_good = rw (eq_z_refl (pos 6), eq_z_refl (pos (6 + n)), eq_z_refl (pos (6 + n + length (ends_of 0 cs))))

    length_good : bad_length tree_block ≡ false
    unfolding laid
    length_good = rw (eq-eqb (length tree_block) (6 + n + length (ends_of 0 cs) + length (literals_of cs)) (laid_length n ws (ends_of 0 cs) (literals_of cs) long))

    variables_here : variables_of tree_block ≡ n
    unfolding laid
    variables_here = refl

    last_here : bad_last tree_block ≡ last_universal (completed n ws (literals_of cs))
    last_here = by (dec_le n 0)
      where
        by : Dec (n ≤ 0) → bad_last tree_block ≡ last_universal (completed n ws (literals_of cs))
        by (yes h) =
            let none : variables_of tree_block ≤ 0 = omega (arith, variables_here) in
            let default = get_or-eq_default (completed n ws (literals_of cs)) (pos 0) {n = length (completed n ws (literals_of cs)) - 1} (omega (arith, long)) in
            rw (le-ltb 0 (variables_of tree_block) none, default)
        by (no h) =
            let some : 0 < variables_of tree_block = omega (arith, variables_here) in
            let p = completed n ws (literals_of cs) in
            let at : get_or (prefix_of tree_block) (variables_of tree_block - 1) (pos 0) ≡ get_or p (length p - 1) (pos 0) = rw (laid_prefix n ws (ends_of 0 cs) (literals_of cs) long, variables_here, long) in
            rw (lt-ltb 0 (variables_of tree_block) some) (ap negative (sym (prefix_last tree_block some) ∙ at))

    literal_count : 0 + length (literals_of cs) ≡ literal_count_of tree_block
    unfolding laid
    literal_count = omega arith

    -- which row applies
    pub tree_rows_lem : (L : Limits) → n ≤ L.variables → length cs ≤ L.clauses → length (literals_of cs) ≤ L.literals
        → refusal L tree_block
        ≡ refusal_of (row 7 (last_universal (completed n ws (literals_of cs))) ∷ row 9 (any (no_variable n) (literals_of cs)) ∷ row 10 (any both_signs cs) ∷ row 23 (any repeats cs) ∷ [])
    unfolding refusal
    tree_rows_lem L v c t =
        rw (le-ltb (length tree_block) 6 (omega (arith, tree_length)), counts_good L v c t, offsets_good, length_good, known_here, once_here, last_here, ends_here, literals_here, clauses_here)
      where
        known_here : any (no_variable (variables_of tree_block)) (prefix_of tree_block) ≡ false
        known_here = rw (laid_prefix n ws (ends_of 0 cs) (literals_of cs) long, variables_here) (completed_known n ws (literals_of cs) known once)

        once_here : twice (prefix_of tree_block) ≡ false
        once_here = rw (laid_prefix n ws (ends_of 0 cs) (literals_of cs) long) (completed_once n ws (literals_of cs) known once)

        ends_here : bad_ends (literal_count_of tree_block) 0 (block.ends_of tree_block) ≡ false
        ends_here = rw (laid_ends n ws (ends_of 0 cs) (literals_of cs) long) (ends_good cs (literal_count_of tree_block) 0 (literal_count))

        literals_here : any (no_variable (variables_of tree_block)) (block.literals_of tree_block) ≡ any (no_variable n) (literals_of cs)
        literals_here = rw (laid_literals n ws (ends_of 0 cs) (literals_of cs) long, variables_here)
