-- One rule applied to the lent buffers.
use Rattle.std.specs.Prelude.{ℕ, ◌+◌, cond, List, eqb, ℤ, pos, neg_ℤ, nat_abs, get_or}
use Rattle.formula.specs.Formula.{universal}
use Rattle.theory.specs.Record.{entry}
use Rattle.record.specs.Trail.{put, wiped_trail}
use Rattle.record.specs.Search.{Search, search}
use Rattle.record.specs.declared.rule.State.{State}
use Rattle.record.specs.declared.rule.State.TheVariants.{Open, Valid, Unsat}
use Rattle.record.specs.Found.{literal}
use Rattle.applied.specs.declared.moves.Move.{Move}
use Rattle.applied.specs.declared.moves.Move.TheVariants.{Append, Flip, End}
use Rattle.record.specs.declared.rule.Rule.{Rule}
use Rattle.record.specs.declared.rule.Rule.TheVariants.{BacktrackExists, Fail, Unit, Monotone, Decide, BacktrackForall, Succeed}

-- an entry more, with a kind
abbrev pub append : ℕ → ℤ → Search → Search
append k l s = search (put s.trail s.count (entry k l)) (s.count + 1) Open

-- the entry i becomes its opposite, with kind 0, and those after it go [backtrack-exists] [backtrack-forall] [cut.wipes]
abbrev pub flip : ℕ → Search → Search
flip i s =
    search
    (put (wiped_trail s.trail (i + 1) s.count) i (entry 0 (neg_ℤ (get_or s.trail.lits i (pos 0)))))
    (i + 1)
    Open

-- the search has ended, and the record stands as it was [ended.leaves]
abbrev pub ended : State → Search → Search
ended t s = search s.trail s.count t

-- the kind of a decision, by the quantifier of its variable [decide] [kinds]
abbrev pub kind_of : List ℤ → ℤ → ℕ
kind_of p l = cond (universal p l) 2 1

-- the proposed literal, or for the proposal 0 the one given, which is the first unassigned variable's [decide.zero]
abbrev pub chosen : ℤ → ℤ → ℤ
chosen proposal first = cond (eqb (nat_abs proposal) 0) first proposal

-- what a rule does, with the proposal that Decide is to take: forced entries have kind 0 [kinds], and two rules end the search [fail] [succeed]
abbrev pub move_of : List ℤ → Rule → ℤ → Move
move_of p (BacktrackExists i c) l = Flip i
move_of p (Fail c) l = End Unsat
move_of p (Unit x c) l = Append 0 x
move_of p (Monotone x) l = Append 0 x
move_of p (Decide x) l = Append (kind_of p (chosen l x.0)) (literal (chosen l x.0))
move_of p (BacktrackForall i) l = Flip i
move_of p Succeed l = End Valid

abbrev pub moved : Move → Search → Search
moved (Append k x) s = append k x.0 s
moved (Flip i) s = flip i s
moved (End t) s = ended t s

-- the rule applied
unfoldable pub apply : List ℤ → Rule → ℤ → Search → Search
apply p rule l s = moved (move_of p rule l) s
