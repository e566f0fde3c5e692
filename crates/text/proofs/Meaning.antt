-- The theorems on an accepted text. [text.accepted] What stands in the output is the block of the tree that the bytes spell, `check` accepts it, and past
-- it all is 0. [text.meaning] The block's formula is as true as the text's own, which is made from the tree alone.
use Rattle.std.specs.Prelude.{◌≡◌, refl, ◌⊎◌, false, not, ℕ, zero, suc, ◌+◌, ℤ, neg_ℤ, nat_abs, length, Ok}
use Rattle.std.proofs.Math.Bool.{or_self}
use Rattle.std.proofs.Common.{sym, ◌∙◌, inl, inr, arith}
use mathlib.Core.List.{List, [], ◌∷◌, ◌++◌}
use Rattle.words.specs.Laws.Bools.{clash, and_r, not_t, or_fl, or_fr, eqb_i}
use Rattle.words.specs.Lists.{In, here, there, all, any}
use Rattle.words.specs.Laws.Lists.{any_append}
use Rattle.words.specs.Words.{negative, mem}
use Rattle.words.specs.Laws.Words.{other_word, nat_abs_neg}
use Rattle.words.specs.Outcomes.{outcome, unless}
use Rattle.words.specs.Rows.{refusal_of}
use Rattle.formula.specs.Limits.{Limits}
use Rattle.formula.specs.Formula.{formula_of}
use Rattle.formula.specs.Truth.{asked, truth, true?}
use Rattle.formula.specs.Block.{names, refusal}
use Rattle.grammar.specs.Grammar.{Text}
use Rattle.grammar.specs.Reads.{Read, spelled, misfit, reads}
use Rattle.laid.specs.Block.{those, free, idle, completed}
use Rattle.text.specs.Tree.{Reading, misfit_at, text_refused, block_refused, words_of, literals_of, ends_of, block_of, text_refusal, row_of, tree_rows, zeros, filled, text_of, answered, read_of, own_formula}
use Rattle.grammar.proofs.Spelled.{reads_right}
use Rattle.laid.specs.Laws.Completed.{those_in, completed_length}
use Rattle.laid.specs.Laws.Parts.{laid_length}
use Rattle.text.proofs.Laws.Block.{ends_length, tree_formula, tree_rows_lem}
use Rattle.text.proofs.Laws.Settled.{Fit, fit, Bound, bound}
use Rattle.text.specs.Accepted.{AcceptedText}

-- ---- a variable that no clause names: both of its values come to the same
apart : (l w : ℤ) (ws : List ℤ) → (nat_abs l ≡ nat_abs w → ⊥) → mem l (w ∷ ws) ≡ mem l ws
unfolding mem
apart l w ws k = rw (other_word l w k)

clause_same : (c σ : List ℤ) (w : ℤ) → any (names (nat_abs w)) c ≡ false → any (λ l. mem l (w ∷ σ)) c ≡ any (λ l. mem l σ) c
unfolding any
clause_same [] σ w h = refl
clause_same (l ∷ c) σ w h =
    let one = or_fl (names (nat_abs w) l) (any (names (nat_abs w)) c) h in
    rw (apart l w σ (λ e. clash (eqb_i (sym e)) one), clause_same c σ w (or_fr (names (nat_abs w) l) (any (names (nat_abs w)) c) h))

clauses_same : (cs : List (List ℤ)) (σ : List ℤ) (w : ℤ) → any (names (nat_abs w)) (literals_of cs) ≡ false → all (any (λ l. mem l (w ∷ σ))) cs ≡ all (any (λ l. mem l σ)) cs
unfolding all literals_of
clauses_same [] σ w h = refl
clauses_same (c ∷ cs) σ w h =
    let k = sym (any_append (names (nat_abs w)) c (literals_of cs)) ∙ h in
    rw (clause_same c σ w (or_fl (any (names (nat_abs w)) c) (any (names (nat_abs w)) (literals_of cs)) k), clauses_same cs σ w (or_fr (any (names (nat_abs w)) c) (any (names (nat_abs w)) (literals_of cs)) k))

-- words that are existential and that no clause names
pub record Idle (cs : List (List ℤ)) (w : ℤ) : Type 0 where
  pub some : negative w ≡ false
  pub unnamed : any (names (nat_abs w)) (literals_of cs) ≡ false

idle_last : (cs : List (List ℤ)) (ws σ : List ℤ) → ((w : ℤ) → In w ws → Idle cs w) → truth ws cs σ ≡ all (any (λ l. mem l σ)) cs
unfolding truth asked
idle_last cs [] σ h = refl
idle_last cs (w ∷ ws) σ h =
    let i = h w (here refl) in
    let rest : (v : ℤ) → In v ws → Idle cs v = λ v j. h v (there j) in
    let yes : truth ws cs (w ∷ σ) ≡ all (any (λ l. mem l σ)) cs = idle_last cs ws (w ∷ σ) rest ∙ clauses_same cs σ w i.unnamed in
    let no : truth ws cs (neg_ℤ w ∷ σ) ≡ all (any (λ l. mem l σ)) cs = idle_last cs ws (neg_ℤ w ∷ σ) rest ∙ clauses_same cs σ (neg_ℤ w) (rw (nat_abs_neg w) i.unnamed) in
    rw (i.some, yes, no) (or_self (all (any (λ l. mem l σ)) cs))

idle_truth : (cs : List (List ℤ)) (p ws σ : List ℤ) → ((w : ℤ) → In w ws → Idle cs w) → truth (p ++ ws) cs σ ≡ truth p cs σ
unfolding truth
idle_truth cs [] ws σ h = idle_last cs ws σ h
idle_truth cs (q ∷ p) ws σ h = rw (idle_truth cs p ws (q ∷ σ) h, idle_truth cs p ws (neg_ℤ q ∷ σ) h)

-- ---- of a tree that passes row 31
module _ (t : Text) (b : Bound t) where
  pub same_truth : true? (formula_of (block_of t)) ≡ true? (own_formula t)
  unfolding true? block_of own_formula completed
  same_truth = rw (tree_formula t.variables (words_of t.groups) t.clauses b.known b.once) (idle_truth t.clauses (those (free (words_of t.groups) (literals_of t.clauses)) 1 t.variables ++ words_of t.groups) (those (idle (words_of t.groups) (literals_of t.clauses)) 1 t.variables) [] idles)
    where
      idles : (w : ℤ) → In w (those (idle (words_of t.groups) (literals_of t.clauses)) 1 t.variables) → Idle t.clauses w
      idles w i =
          let u = those_in (idle (words_of t.groups) (literals_of t.clauses)) 1 t.variables w i in
          let v = u.number in
          rw u.word (record { some = refl; unnamed = not_t (any (names v) (literals_of t.clauses)) (and_r (not (any (names v) (words_of t.groups))) (not (any (names v) (literals_of t.clauses))) u.passes) })

block_length : (t : Text) → Bound t → length (block_of t) ≡ 6 + t.variables + length t.clauses + length (literals_of t.clauses)
unfolding block_of
block_length t b = rw (← ends_length 0 t.clauses) (laid_length t.variables (words_of t.groups) (ends_of 0 t.clauses) (literals_of t.clauses) (completed_length t.variables (words_of t.groups) (literals_of t.clauses) b.known b.once))

tree_passes : (L : Limits) (t : Text) (room : ℕ) → Fit L t room → row_of t ≡ 0 → refusal L (block_of t) ≡ 0
unfolding row_of block_of
tree_passes L t room f e =
    let b = bound t e in
    let r : refusal_of (tree_rows t.variables (words_of t.groups) t.clauses) ≡ 0 = e in
    tree_rows_lem t.variables (words_of t.groups) t.clauses b.known b.once L f.variables f.clauses f.literals ∙ rw (b.known, b.once) at r

-- an answer by its cases: accepted is neither a misfit nor a number
no_answer {ℓ} : {A : Type ℓ} {n m : ℕ} → misfit_at m ≡ Ok n → A
no_answer e = let z : ◌≡◌ {A = ℕ} 0 1 = cc in absurd (omega arith)

module _ (a : Reading) (m z : List ℤ) where
  passed_both : (n table row : ℕ) → (unless text_refused table z (unless block_refused row z (outcome a m))).answer ≡ Ok n
      → (table ≡ 0) × (row ≡ 0) × (a ≡ Ok n) × ((unless text_refused table z (unless block_refused row z (outcome a m))).memory ≡ m)
  passed_both n zero zero e = (refl, refl, e, refl)
  passed_both n zero (suc r) e = let z : ◌≡◌ {A = ℕ} 0 1 = cc in absurd (omega arith)
  passed_both n (suc k) r e = let z : ◌≡◌ {A = ℕ} 0 1 = cc in absurd (omega arith)

pub accepted_text : (L : Limits) (bs : List ℕ) (o : List ℤ) (n : ℕ) → (read_of L bs o).answer ≡ Ok n → AcceptedText L bs o n
unfolding read_of answered text_of
accepted_text L bs o n e = by (reads bs) refl e
  where
    by : (r : Read) → reads bs ≡ r → (answered L r o).answer ≡ Ok n → AcceptedText L bs o n
    by (misfit i) h e = no_answer e
    by (spelled t) h e =
        let (k, r, a, m) = passed_both (Ok (6 + t.variables + length t.clauses + length (literals_of t.clauses))) (filled (block_of t) o) (zeros (length o)) n (text_refusal L t (length o)) (row_of t) e in
        let b = bound t r in
        let long : length (block_of t) ≡ n = block_length t b ∙ cc in
        record {
          tree = t;
          spells = reads_right bs t h;
          output = rw (h, ← long) m;
          long = long;
          passes = tree_passes L t (length o) (fit L t (length o) k) r;
          meaning = same_truth t b;
        }

-- ---- [text.wiped] a text that is not accepted leaves all of the output 0
module _ (k : ℕ) (m z : List ℤ) where
  accepted_else : (table row : ℕ) → let u = unless text_refused table z (unless block_refused row z (outcome (Ok k) m)) in ((n : ℕ) × (u.answer ≡ Ok n)) ⊎ (u.memory ≡ z)
  accepted_else zero zero = inl (k, refl)
  accepted_else zero (suc r) = inr refl
  accepted_else (suc t) r = inr refl

pub accepted_or_wiped : (L : Limits) (bs : List ℕ) (o : List ℤ) → ((n : ℕ) × ((read_of L bs o).answer ≡ Ok n)) ⊎ ((read_of L bs o).memory ≡ zeros (length o))
unfolding read_of answered text_of
accepted_or_wiped L bs o = by (reads bs)
  where
    by : (r : Read) → ((n : ℕ) × ((answered L r o).answer ≡ Ok n)) ⊎ ((answered L r o).memory ≡ zeros (length o))
    by (misfit i) = inr refl
    by (spelled t) =
        accepted_else (6 + t.variables + length t.clauses + length (literals_of t.clauses)) (filled (block_of t) o) (zeros (length o)) (text_refusal L t (length o)) (row_of t)
