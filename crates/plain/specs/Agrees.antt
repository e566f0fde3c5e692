-- [plain.session] The second opinion and the session: where both accept the block, any history that ends, whatever was called, ends in the state
-- that the opinion tells. From the session's claim about every history.
use Rattle.std.specs.Prelude.{suc, ◌^◌, ◌≤◌, ◌≡◌, Bool, List, ℤ, Result, Ok, Err}
use Rattle.std.proofs.Math.Path.{refl}
use Rattle.std.proofs.Common.{sym, ◌∙◌, arith, pow_mono}
use Rattle.std.proofs.Math.Bool.{true, false}
use borrow.Author.Tests.{ltb-false}
use Rattle.words.specs.Laws.Rows.{passed}
use Rattle.formula.specs.Limits.{Limits}
use Rattle.formula.specs.Formula.{variables_of, formula_of}
use Rattle.formula.specs.Truth.{true?}
use Rattle.record.specs.declared.rule.State.{State}
use Rattle.record.specs.declared.rule.State.TheVariants as state
use Rattle.memory.specs.Memory.{Memory}
use Rattle.session.specs.declared.Revision.{Revision}
use Rattle.session.specs.declared.Session.{Session}
use Rattle.session.specs.Outcome.{open_outcome}
use Rattle.session.specs.Calls.{Desk, Call, play}
use Rattle.session.specs.History.{verdict_of, fresh_desk, any_history, some_history_ends}
use Rattle.words.specs.declared.Refusal.{Refusal}
use Rattle.plain.specs.Solve.{most_variables, plain_rows, plain_refusal, opinion_of, solve_of}

-- the state that an opinion tells; one that refuses tells none
abbrev pub state_told : Result Bool Refusal → State
state_told (Ok true) = state.Valid
state_told (Ok false) = state.Unsat
state_told (Err e) = state.Open

module _ (L : Limits) (b : List ℤ) (passes : plain_refusal L b ≡ 0) where
  -- an accepted block has few variables, and is told its truth
  pub plain_few : variables_of b ≤ most_variables
  unfolding plain_refusal
  plain_few = ltb-false most_variables (variables_of b) (passed (plain_rows L b) refl passes 22)

  pub plain_told : state_told (solve_of L b) ≡ verdict_of (true? (formula_of b))
  unfolding solve_of opinion_of
  plain_told = rw passes (go (true? (formula_of b)))
    where
      go : (t : Bool) → state_told (opinion_of 0 t) ≡ verdict_of t
      go true = refl
      go false = refl

  module _ (m : Memory) (first : Revision) (s : Session) (opened : (open_outcome L b m first).answer ≡ Ok s) where
    pub plain_agrees : (calls : List Call) → let d = play L b (fresh_desk L b m first s) calls in (d.latest.state ≡ state.Open → ⊥) → d.latest.state ≡ state_told (solve_of L b)
    plain_agrees calls ended = rw plain_told (go d.latest.state refl)
      where
        d : Desk
        d = play L b (fresh_desk L b m first s) calls

        go : (st : State) → d.latest.state ≡ st → st ≡ verdict_of (true? (formula_of b))
        go state.Open e = absurd (ended e)
        go state.Valid e = rw ((any_history L b m first s opened calls).valid_true e)
        go state.Unsat e = rw ((any_history L b m first s opened calls).unsat_false e)

    -- and from revision 0 some history does end
    pub plain_reached : first.0 ≡ 0 → (calls : List Call) × ((play L b (fresh_desk L b m first s) calls).latest.state ≡ state_told (solve_of L b))
    plain_reached z =
        let few = plain_few in
        let most : 2 ^ suc (variables_of b) ≤ 2 ^ 25 = pow_mono {i = suc (variables_of b)} {j = 25} (omega arith) in
        let (calls, e) = some_history_ends L b m first s opened (omega arith) in
        (calls, e ∙ sym plain_told)
