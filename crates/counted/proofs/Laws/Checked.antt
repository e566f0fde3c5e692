-- What an accepted block gives to a counted run: few clauses, each literal of a clause once, and a table of values for each record that row 12 lets pass.
use Rattle.std.specs.Prelude.{ℕ, zero, suc, ◌+◌, ◌≤◌, ◌<◌, ◌≡◌, refl, false, List, [], ◌∷◌, ℤ, pos, neg_ℤ, nat_abs, length, get_or, take, drop}
use Rattle.std.proofs.Common.{sym, ◌∙◌, arith, length-drop, length-take-le}
use Rattle.std.proofs.Math.Decide.{dec_le}
use Rattle.words.specs.Laws.Bools.{to_false}
use Rattle.words.specs.Words.{mem}
use Rattle.words.specs.Laws.Words.{mem_e, nat_abs_neg}
use Rattle.formula.specs.Limits.{limits}
use Rattle.formula.specs.Formula.{variables_of, clause_count_of, literal_count_of, prefix_of, ends_of, literals_of}
use Rattle.formula.specs.Block.{refusal}
use Rattle.formula.specs.Laws.Accepted.{Accepted, accepted, literals_length}
use Rattle.formula.specs.Laws.Named.{in_named}
use Rattle.theory.specs.Record.{among}
use Rattle.record.specs.Inner.Ready.{Ready}
use Rattle.record.specs.Inner.Tables.{value_in, Values, Written}
use Rattle.record.proofs.Laws.Accepted.{accepted_ready}
use Rattle.rules.proofs.Laws.ClausesReady.{ready_clauses}
use Rattle.counted.specs.Inner.Index.{Few}
use Rattle.counted.specs.Inner.State.{AllOnce}
use Rattle.counted.specs.Inner.Standing.{clauses_of}
use Rattle.counted.proofs.Laws.Steps.{all_once}

module _ (b : List ℤ) (h : refusal limits b ≡ 0) where
  part : Accepted limits b
  part = accepted limits b h

  pub ready : Ready (prefix_of b) (ends_of b) (literals_of b)
  ready = accepted_ready b h

  pub ends_length : length (ends_of b) ≡ clause_count_of b
  ends_length = length-take-le (clause_count_of b) (drop (6 + variables_of b) b) (rw length-drop (omega (arith, part.whole)))

  pub few : Few (ends_of b) (literals_of b)
  few = record {
    clauses = ready_clauses (prefix_of b) (ends_of b) (literals_of b) ready;
    few_clauses = omega (arith, ends_length, part.counts.clauses.most);
    few_literals = omega (arith, literals_length part, part.counts.literals.most);
  }

  pub once : AllOnce (clauses_of b)
  once = all_once (ends_of b) (literals_of b) few ready.single

  pub literals_few : length (literals_of b) ≡ literal_count_of b
  literals_few = literals_length part

-- ---- some table holds the values of a record: a counted run has none of its own, but what the rules prove of theirs is said of such a table
tabulated : (ℕ → ℕ) → ℕ → List ℕ
tabulated f zero = []
tabulated f (suc n) = f 0 ∷ tabulated (λ i. f (suc i)) n

tabulated_at : (f : ℕ → ℕ) (n i : ℕ) → i < n → get_or (tabulated f n) i 0 ≡ f i
unfolding tabulated
tabulated_at f zero i h = absurd (omega arith)
tabulated_at f (suc n) zero h = refl
tabulated_at f (suc n) (suc i) h = tabulated_at (λ i. f (suc i)) n i (omega arith)

tabulated_past : (f : ℕ → ℕ) (n i : ℕ) → n ≤ i → get_or (tabulated f n) i 0 ≡ 0
unfolding tabulated
tabulated_past f zero i h = refl
tabulated_past f (suc n) zero h = absurd (omega arith)
tabulated_past f (suc n) (suc i) h = tabulated_past (λ i. f (suc i)) n i (omega arith)

module _ (lits : List ℤ) (n : ℕ) (w : Written lits n) where
  none : (x : ℤ) → limits.variables < nat_abs x → mem x (take n lits) ≡ false
  none x l = to_false (mem x (take n lits)) (λ e. let k = in_named limits.variables (take n lits) w.named (mem_e x (take n lits) e) in omega (arith, k.most))

  pub some_values : (values : List ℕ) × Values (among (take n lits)) values
  some_values = (tabulated (value_in (among (take n lits))) (suc limits.variables), λ v. by v (dec_le v limits.variables))
    where
      by : (v : ℕ) → Dec (v ≤ limits.variables) → get_or (tabulated (value_in (among (take n lits))) (suc limits.variables)) v 0 ≡ value_in (among (take n lits)) v
      by v (yes l) = tabulated_at (value_in (among (take n lits))) (suc limits.variables) v (omega arith)
      by v (no f) =
          let l : limits.variables < v = omega arith in
          let m : limits.variables < nat_abs (neg_ℤ (pos v)) = rw (nat_abs_neg (pos v)) l in
          tabulated_past (value_in (among (take n lits))) (suc limits.variables) v (omega arith) ∙ sym (rw (none (pos v) l, none (neg_ℤ (pos v)) m))
