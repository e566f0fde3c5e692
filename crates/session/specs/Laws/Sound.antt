-- The due rule leaves reasons that rows 11 and 12 let pass: row 12 is a property of every entry with its reason, and the clause named is one of C.
use Rattle.std.specs.Prelude.{ℕ, ◌+◌, ◌≡◌, false, List, ℤ, get_or, replicate}
use Rattle.std.proofs.Common.{arith, le-ltb}
use Rattle.std.proofs.lemmas.List.{length-replicate}
use Rattle.words.specs.Laws.Lists.{blank as zeros}
use Rattle.words.specs.declared.Literal.{Literal}
use Rattle.formula.specs.Limits.{Limits}
use Rattle.formula.specs.Formula.{variables_of, clause_count_of, prefix_of, formula_of}
use Rattle.theory.specs.Record.{Entry, Record}
use Rattle.record.specs.declared.rule.Rule.TheVariants.{Unit}
use Rattle.record.specs.Search.{Search, record_in}
use Rattle.rules.specs.Due.{due}
use Rattle.applied.specs.Apply.{apply}
use Rattle.record.specs.Inner.Ready.{OnBlock}
use Rattle.record.proofs.Laws.Accepted.{prefix_length}
use Rattle.memory.specs.Memory.{memory_of}
use Rattle.memory.specs.Reasons.{noted, bad_reason}
use Rattle.memory.proofs.Laws.BadReasons.{bad_each, each_bad, zero_right}
use Rattle.session.specs.Laws.Accepted.{Sound}
use Rattle.memory.proofs.Laws.Noted.{noted_length}
use Rattle.search.proofs.Laws.Named.{fitting, due_names, clause_count}
use Rattle.session.specs.Laws.Each.{Each, each_after}

-- reasons that are all 0 pass rows 11 and 12, beside any record
pub none_sound : (b : List ℤ) (t : Search) (n : ℕ) → Sound b (memory_of t (replicate (variables_of b) 0)) n
none_sound b t n =
    let v = variables_of b in
    let C = clause_count_of b in
    record {
      places = rw (length-replicate {A = ℕ} v 0) (omega arith);
      good = each_bad C t.trail (replicate v 0) n (λ j h. rw (zeros {A = ℕ} 0 v j) (zero_right C (get_or t.trail.kinds j 0)));
    }

-- the due rule leaves reasons that rows 11 and 12 let pass
pub sound_after : (L : Limits) (b : List ℤ) (t : Search) (ws : List ℕ) → OnBlock L b t.trail t.count → Sound b (memory_of t ws) t.count → (l : ℤ)
    → let rule = due (formula_of b) (record_in t) in let u = apply (prefix_of b) rule l t in Sound b (memory_of u (noted rule t.count ws)) u.count
unfolding formula_of
sound_after L b t ws o s l =
    let F = formula_of b in
    let rule = due F (record_in t) in
    let u = apply (prefix_of b) rule l t in
    let C = clause_count_of b in
    let Q : Record → Entry → ℕ → Type 0 = λ r e w. bad_reason C e.kind w ≡ false in
    let each : Each Q t ws = bad_each C t.trail ws t.count s.good in
    let unit : (x : Literal) (c : ℕ) → rule ≡ Unit x c → bad_reason C 0 (c + 1) ≡ false = λ x c e. let h = rw e at (due_names F (record_in t)) in rw (le-ltb C (c + 1) (omega (arith, h.0, clause_count L b o.block))) in
    record {
      places = rw (noted_length rule t.count ws) s.places;
      good = each_bad C u.trail (noted rule t.count ws) u.count (each_after Q (λ r e. zero_right C e.kind) (prefix_of b) l t o.kept ws (omega (arith, prefix_length L b o.block, s.places)) each rule (fitting o) unit);
    }
