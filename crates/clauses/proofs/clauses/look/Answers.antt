-- One law for each status of a literal, and for each end.
use Rattle.std.proofs.Common.{◌≡◌, ◌∙◌, ap, get_or, pos, rules, sym, arith}
use mir.Syntax.{w32}
use mir.Val.{SFits, to_z, of_z}
use mir.ValLaws.{to_z-of_z}
use Rattle.tables.specs.Inner.ByLiteral.{status_in}
use Rattle.clauses.specs.Inner.Clauses.{level_by}
use Rattle.clauses.proofs.Looks.{look_start, look_false, look_true, look_first, look_second, look_universal, look_bare, look_below, look_above}
use Rattle.clauses.proofs.clauses.look.Goals as goal
use Rattle.clauses.proofs.clauses.look.Goals.{After-status, in-0, in-2-2, in_default}

pub loop-word-init : goal.loop-word-init
loop-word-init c = (look_start _ _ _, tt)

-- the status read is that of the word at hand
module _ (c : After-status) where
  read : to_z w32 (of_z w32 (get_or c.args.clause.now c.loop-word.word-index (pos 0))) ≡ get_or c.args.clause.now c.loop-word.word-index (pos 0)
  read =
      let word : SFits w32 (get_or c.args.clause.now c.loop-word.word-index (pos 0)) = search rules in
      to_z-of_z w32 _ word

  status_is : status_in c.args.statuses.now (get_or c.args.clause.now c.loop-word.word-index (pos 0)) ≡ c.status.result
  status_is = sym (c.status.ensures ∙ ap (status_in c.args.statuses.now) read)

pub returns-in-1 : goal.returns-in-1
returns-in-1 c = look_true _ _ _ _ _ _ c.loop-word.invariant.0 c.loop-word-test.true (status_is (goal.at.returns-in-1 c).After-status ∙ c.in-1.is)

pub returns-in-2 : goal.returns-in-2
returns-in-2 c =
    look_second _ _ _ _ _ _ c.loop-word.invariant.0 c.loop-word-test.true (status_is (goal.at.returns-in-2 c).After-status ∙ c.in-2.is) (sym c.is_some.ensures ∙ c.if-is_some.true)

pub loop-word-preserved : goal.loop-word-preserved
loop-word-preserved c =
    let at = (goal.at.loop-word-preserved c).After-status in
    let k = c.loop-word.invariant.0 in
    elim c.match-status.branch [
      | in-0 w ↦ rw (w.kept-is, w.above-is) (look_false _ _ _ _ _ _ k c.loop-word-test.true (status_is at ∙ w.in-0.is), c.loop-word.invariant.1)
      | in-2-2 w ↦ rw (w.kept-is, w.above-is, read at) (look_first _ _ _ _ _ _ k c.loop-word-test.true (status_is at ∙ w.in-2.is) (search rules), c.requires c.loop-word.word-index)
      | in_default w ↦ rw (w.kept-is, w.above-is, w.min-above.ensures, w.level.ensures, read at)
          (look_universal _ _ _ _ _ _ k c.loop-word-test.true (λ e. let z = sym (status_is at) ∙ e in omega arith) (λ e. let z = sym (status_is at) ∙ e in omega arith) (λ e. let z = sym (status_is at) ∙ e in omega arith), c.loop-word.invariant.1)
    ]

pub returns-in_default-kept : goal.returns-in_default-kept
returns-in_default-kept c = look_bare _ _ _ _ _ _ c.loop-word.invariant.0 c.loop-word-test.false (search rules)

pub returns-then-level-above : goal.returns-then-level-above
returns-then-level-above c =
    let word : SFits w32 c.in-Some.word = search rules in
    let same = to_z-of_z w32 _ word in
    rw same (look_below _ _ _ _ _ _ c.loop-word.invariant.0 c.loop-word-test.false _ c.in-Some.is (omega (arith, c.if-level-above.true, c.level-2.ensures, ap (level_by c.args.levels.now) same)))

pub returns-else-level-above : goal.returns-else-level-above
returns-else-level-above c =
    let word : SFits w32 c.in-Some.word = search rules in
    look_above _ _ _ _ _ _ c.loop-word.invariant.0 c.loop-word-test.false _ c.in-Some.is (omega (arith, c.if-level-above.false, c.level-2.ensures, ap (level_by c.args.levels.now) (to_z-of_z w32 _ word)))
