-- Unit's clause forces its literal, by what the test of a unit says; so what reasons say of the entries goes on to hold.
use Rattle.std.specs.Prelude.{ℕ, suc, ◌+◌, ◌<◌, ◌≤◌, ◌≡◌, neg_ℤ, length, get_or}
use Rattle.std.proofs.Math.Path.{refl}
use Rattle.std.proofs.Math.Logic.{inl, inr}
use mathlib.Core.List.{List, []}
use Rattle.std.proofs.Common.{arith}
use Rattle.std.proofs.Math.IntN.{ℤ}
use Rattle.words.specs.Laws.Bools.{clash, look, or_e}
use Rattle.words.specs.Lists.{In}
use Rattle.words.specs.Laws.Lists.{any_none, in_at}
use Rattle.words.specs.declared.Literal.{Literal}
use Rattle.formula.specs.Limits.{Limits}
use Rattle.formula.specs.Formula.{variables_of, prefix_of, literals_of, ends_of, formula_of}
use Rattle.formula.specs.Block.{refusal}
use Rattle.formula.specs.Inner.Named.{Named}
use Rattle.formula.specs.Laws.Named.{in_named}
use Rattle.formula.specs.Laws.Accepted.{accepted}
use Rattle.formula.specs.Laws.Clauses.{clauses_in}
use Rattle.formula.specs.Laws.Permuted.{quantified}
use Rattle.theory.specs.Record.{entry, Record, Assignment, true_in, assigned}
use Rattle.theory.proofs.Laws.Tested.{unassigned_existential_i, unassigned_universal_i, unit_e}
use Rattle.theory.specs.Met.{UnitAt}
use Rattle.record.specs.declared.rule.Rule.TheVariants.{Unit}
use Rattle.record.specs.Search.{Search, record_in}
use Rattle.rules.specs.Due.{due}
use Rattle.applied.specs.Apply.{apply}
use Rattle.record.specs.Inner.Ready.{OnBlock}
use Rattle.record.proofs.Laws.Accepted.{prefix_length, accepted_binds}
use Rattle.memory.specs.Reasons.{noted}
use Rattle.session.specs.Forced.{Aside, Forced, Explained}
use Rattle.search.proofs.Laws.Named.{fitting, due_names}
use Rattle.search.specs.Named.{Names}
use Rattle.session.specs.Laws.Each.{Each, each_after}

module _ (L : Limits) (b : List ℤ) (block : refusal L b ≡ 0) where
  -- a literal of a clause names a variable of the prefix
  clause_named : (c : ℕ) → c < length (formula_of b).clauses → (x : ℤ) → In x (get_or (formula_of b).clauses c []) → Named (length (prefix_of b)) x
  unfolding formula_of
  clause_named c h x i = rw (prefix_length L b block) (in_named (variables_of b) (literals_of b) (accepted L b block).literals (clauses_in (literals_of b) 0 (ends_of b) (in_at (formula_of b).clauses c [] h) i))

  module _ (r : Record) (l : ℤ) (c : ℕ) (h : c < length (formula_of b).clauses) (u : UnitAt (prefix_of b) (get_or (formula_of b).clauses c []) l (true_in r)) where
    aside : (x : ℤ) → In x (get_or (formula_of b).clauses c []) → (x ≡ l → ⊥) → Aside (formula_of b) r l x
    unfolding formula_of assigned
    aside x i other = elim (look (assigned ρ x)) [
      | inl a ↦ elim (or_e (ρ x) (ρ (neg_ℤ x)) a) [ inl e ↦ clash e (any_none ρ (get_or (formula_of b).clauses c []) u.untrue i) | inr e ↦ inl e ]
      | inr a ↦ elim (quantified (length p) p (accepted_binds L b block).named (accepted_binds L b block).once refl x (clause_named c h x i)) [
        | inl e ↦ absurd (other (u.only x i (unassigned_existential_i p ρ x e a)))
        | inr e ↦ inr (e, a, u.deeper x i (unassigned_universal_i p ρ x e a))
      ]
    ]
      where
        p : List ℤ
        p = prefix_of b

        ρ : Assignment
        ρ = true_in r

  unit_forces : (r : Record) (l : Literal) (c : ℕ) → Names (formula_of b) r (Unit l c) → Forced (formula_of b) r l.0 c
  unfolding formula_of
  unit_forces r l c (h, e) =
      let u = unit_e (prefix_of b) (true_in r) (get_or (formula_of b).clauses c []) l.0 e in
      record { clause = h; holds = u.inside; unassigned = u.unset; others = aside r l.0 c h u }

no_reason : {A : Type 0} (c : ℕ) → 0 ≡ suc c → A
no_reason c e = absurd (omega arith)

-- after the due rule every entry is explained, if it was so before
pub explained_after : (L : Limits) (b : List ℤ) (t : Search) (ws : List ℕ) → OnBlock L b t.trail t.count → variables_of b ≤ length ws → (l : ℤ)
    → Each (Explained (formula_of b)) t ws
    → let rule = due (formula_of b) (record_in t) in Each (Explained (formula_of b)) (apply (prefix_of b) rule l t) (noted rule t.count ws)
unfolding formula_of
explained_after L b t ws o long l each =
    let F = formula_of b in
    let rule = due F (record_in t) in
    let unit : (x : Literal) (c : ℕ) → rule ≡ Unit x c → Explained F (record_in t) (entry 0 x.0) (c + 1) = λ x c e k q.
    let z : c ≡ k = omega arith in
    rw (← z) (unit_forces L b o.block (record_in t) x c (rw e at (due_names F (record_in t))))
    in
    each_after (Explained F) (λ r e c q. no_reason c q) (prefix_of b) l t o.kept ws (omega (arith, prefix_length L b o.block, long)) each rule (fitting o) unit
