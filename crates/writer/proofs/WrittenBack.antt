-- The theorems on a block that was written. [write.back] Its text spells the tree of its own formula; read with room enough, it gives the same block, word
-- for word; two accepted blocks with one text are one. [write.room] What room always suffices.
use Rattle.std.specs.Prelude.{◌≡◌, ◌+◌, ◌*◌, ◌-◌, ◌≤◌, ℤ, pos, negsuc, Ok}
use Rattle.std.proofs.Math.Path.{refl, ap}
use Rattle.std.proofs.Common.{sym, ◌∙◌, arith}
use Rattle.std.proofs.Math.Bool.{true, false}
use mathlib.Core.List.{List, [], ◌∷◌, ◌++◌, map}
use Rattle.std.proofs.Math.IntN.{nat_abs}
use Rattle.std.proofs.Math.ListN.{length, length-append}
use borrow.Author.Tests.{le-ltb, eq-eqb}
use Rattle.words.specs.Lists.{In, here, there, any}
use Rattle.words.specs.Laws.Lists.{any_f}
use Rattle.words.specs.Outcomes.{outcome}
use Rattle.formula.specs.Limits.{Limits}
use Rattle.formula.specs.Formula.{variables_of, clause_count_of, literal_count_of, prefix_of, clauses_from, formula_of}
use Rattle.formula.specs.Formula as block
use Rattle.formula.specs.Block.{no_variable, twice, refusal}
use Rattle.formula.specs.Laws.Accepted.{Accepted, accepted, prefix_length, literals_length}
use Rattle.formula.specs.Laws.Clauses.{clauses_in, clauses_length}
use Rattle.formula.specs.Laws.Named.{in_named}
use Rattle.grammar.specs.Grammar.{Text, Spells}
use Rattle.grammar.proofs.Spelled.{reads_all, one_text}
use Rattle.grammar.specs.Written.{written, problem_line, group_lines, clause_lines}
use Rattle.grammar.proofs.Laws.Written.{spells_written}
use Rattle.reader.specs.Keep.{beyond}
use Rattle.text.specs.Tree.{words_of, numbers_of, literals_of, some_beyond, text_refusal, row_of, block_of, zeros, text_of, answered, read_of}
use Rattle.writer.specs.Write.{groups_of, tree_of, written_of}
use Rattle.text.proofs.Laws.Block.{tree_rows_lem}
use Rattle.writer.proofs.Laws.Groups.{numbers_back, all_binding, streamed}
use Rattle.writer.proofs.Laws.Back.{ends_length, tree_variables, tree_count, tree_literals, tree_words, block_back}
use Rattle.writer.proofs.Laws.Lengths.{group_words_length, clause_lines_length, problem_length}
use Rattle.text.proofs.Laws.Rows.{Hidden}

-- ---- the parts of a text
pub written_parts : (b : List ℤ) → written_of b ≡ problem_line (length (prefix_of b)) (length (block.ends_of b)) ++ (group_lines (groups_of (prefix_of b)) ++ clause_lines (clauses_from (block.literals_of b) 0 (block.ends_of b)))
unfolding written_of written tree_of formula_of
written_parts b = rw (clauses_length (block.literals_of b) 0 (block.ends_of b))

-- a size up to 2^31 - 1 is not beyond
small_size : (w : ℤ) → nat_abs w ≤ 2147483647 → beyond w ≡ false
unfolding beyond
small_size (pos n) h = le-ltb 2147483647 n h
small_size (negsuc n) h = le-ltb 2147483647 n (omega arith)

no_large : (ws : List ℤ) → ((w : ℤ) → In w ws → nat_abs w ≤ 2147483647) → any (λ n. beyond (pos n)) (map nat_abs ws) ≡ false
unfolding any beyond
no_large [] h = refl
no_large (w ∷ ws) h = rw (le-ltb 2147483647 (nat_abs w) (h w (here refl)), no_large ws (λ v i. h v (there i)))

module _ (L : Limits) (b : List ℤ) (e : refusal L b ≡ 0) where
  abbrev a : Accepted L b
  a = accepted L b e

  -- ---- the text spells the block's own tree
  pub written_spells : Spells (written_of b) (tree_of (formula_of b))
  unfolding written_of tree_of formula_of
  written_spells =
      spells_written (tree_of (formula_of b))
      (all_binding (prefix_of b) (λ w i. (in_named (variables_of b) (prefix_of b) a.known i).some))
      (λ c i l j. (in_named (variables_of b) (block.literals_of b) a.literals (clauses_in (block.literals_of b) 0 (block.ends_of b) i j)).some)

  -- ---- read with room, it gives the same block
  module _ (hidden : Hidden L) (o : List ℤ) (room : length b ≤ length o) where
    abbrev tree : Text
    tree = tree_of (formula_of b)

    numbers_small : any (λ n. beyond (pos n)) (numbers_of tree.groups) ≡ false
    unfolding tree_of formula_of
    numbers_small =
        rw (numbers_back (prefix_of b))
        (no_large (prefix_of b) (λ w i. let n = in_named (variables_of b) (prefix_of b) a.known {w = w} i in omega (arith, n.most, a.counts.variables.most, hidden.variables)))

    literals_small : any beyond (literals_of tree.clauses) ≡ false
    literals_small =
        rw (tree_literals L b a)
        (any_f beyond (block.literals_of b) (λ w i. small_size w (let n = in_named (variables_of b) (block.literals_of b) a.literals {w = w} i in omega (arith, n.most, a.counts.variables.most, hidden.variables))))

    counted : length tree.clauses ≡ tree.count
    unfolding tree_of
    counted = refl

    none_beyond : some_beyond tree ≡ false
    unfolding some_beyond beyond
    none_beyond =
        let v : tree.variables ≤ 2147483647 = omega (arith, tree_variables L b a, a.counts.variables.most, hidden.variables) in
        let c : tree.count ≤ 2147483647 = omega (arith, counted, tree_count L b a, a.counts.clauses.most, hidden.clauses) in
        rw (le-ltb 2147483647 tree.variables v, le-ltb 2147483647 tree.count c, numbers_small, literals_small)

    -- no row of the counts applies, and none of the block's
    no_refusal : text_refusal L tree (length o) ≡ 0
    unfolding text_refusal
    no_refusal =
        let v = tree_variables L b a in
        let c = tree_count L b a in
        let t = ap length (tree_literals L b a) ∙ literals_length a in
        rw (none_beyond, eq-eqb (length tree.clauses) tree.count counted, v, c, t, le-ltb L.variables (variables_of b) a.counts.variables.most, le-ltb L.clauses (clause_count_of b) a.counts.clauses.most, le-ltb L.literals (literal_count_of b) a.counts.literals.most, le-ltb (length o) (6 + variables_of b + clause_count_of b + literal_count_of b) (omega (arith, room, a.whole)))

    no_row : row_of tree ≡ 0
    unfolding row_of block_of
    no_row =
        let known : any (no_variable tree.variables) (words_of tree.groups) ≡ false = rw (tree_variables L b a, tree_words L b a) a.known in
        let once : twice (words_of tree.groups) ≡ false = rw (tree_words L b a) a.once in
        let t = ap length (tree_literals L b a) ∙ literals_length a in
        let r = tree_rows_lem tree.variables (words_of tree.groups) tree.clauses known once L (omega (arith, tree_variables L b a, a.counts.variables.most)) (omega (arith, tree_count L b a, a.counts.clauses.most)) (omega (arith, t, a.counts.literals.most)) in
        rw (known, once) (sym r ∙ ap (refusal L) (block_back L b a) ∙ e)

    pub written_read_back : read_of L (written_of b) o ≡ outcome (Ok (length b)) (b ++ zeros (length o - length b))
    unfolding read_of answered text_of
    written_read_back =
        let v = tree_variables L b a in
        let c = tree_count L b a in
        let t = ap length (tree_literals L b a) ∙ literals_length a in
        rw (reads_all (written_of b) tree written_spells, no_refusal, no_row, block_back L b a, v, c, t, a.whole)

  -- ---- how long it is at most
  module _ (variables : L.variables ≤ 9999) (clauses : L.clauses ≤ 9999) where
    pub written_length : length (written_of b) ≤ 16 + 9 * variables_of b + 2 * clause_count_of b + 6 * literal_count_of b
    unfolding tree_of formula_of
    written_length =
        let p = prefix_of b in
        let cs = clauses_from (block.literals_of b) 0 (block.ends_of b) in
        let v : length p ≡ variables_of b = prefix_length a in
        let c : length (block.ends_of b) ≡ clause_count_of b = ends_length L b a in
        let n : length cs ≡ clause_count_of b = tree_count L b a in
        let t : length (literals_of cs) ≡ literal_count_of b = ap length (tree_literals L b a) ∙ literals_length a in
        let small : (w : ℤ) → In w p → nat_abs w ≤ 9999 = λ w i. let m = in_named (variables_of b) p a.known {w = w} i in omega (arith, m.most, a.counts.variables.most) in
        let few : (c : List ℤ) → In c cs → (l : ℤ) → In l c → nat_abs l ≤ 9999 =
        λ c i l j. let m = in_named (variables_of b) (block.literals_of b) a.literals {w = l} (clauses_in (block.literals_of b) 0 (block.ends_of b) i j) in omega (arith, m.most, a.counts.variables.most) in
        let first = problem_length (length p) (length (block.ends_of b)) (omega (arith, v, a.counts.variables.most)) (omega (arith, c, a.counts.clauses.most)) in
        let second : length (group_lines (groups_of p)) ≤ 9 * length p = rw (← (streamed p).new) (group_words_length p true small) in
        let third = clause_lines_length cs few in
        rw (written_parts b, length-append (problem_line (length p) (length (block.ends_of b))) (group_lines (groups_of p) ++ clause_lines cs), length-append (group_lines (groups_of p)) (clause_lines cs))
        (omega (arith, first, second, third, v, n, t))

-- ---- two accepted blocks with one text
pub same_text_same_block : (L : Limits) (b b' : List ℤ) → refusal L b ≡ 0 → refusal L b' ≡ 0 → written_of b ≡ written_of b' → b ≡ b'
same_text_same_block L b b' e e' h =
    let s : Spells (written_of b) (tree_of (formula_of b')) = rw h (written_spells L b' e') in
    let t : tree_of (formula_of b) ≡ tree_of (formula_of b') = one_text (written_of b) (tree_of (formula_of b)) (tree_of (formula_of b')) (written_spells L b e) s in
    sym (block_back L b (accepted L b e)) ∙ ap block_of t ∙ block_back L b' (accepted L b' e')
