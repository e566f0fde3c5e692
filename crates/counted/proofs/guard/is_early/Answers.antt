-- A check that is not refused gives 0, which is no row; one that is refused gives its row's number.
use Rattle.std.specs.Prelude.{ℕ, zero, suc, ◌≡◌, Bool, false, ◌||◌, eqb, ltb, Result, Ok, Err}
use Rattle.std.specs.Result.{MatchResult}
use Rattle.std.proofs.Common.{◌∙◌, arith, ne_eqb, rules}
use Rattle.std.proofs.Math.Bool.{or_comm}
use borrow.Author.Tests.{tests}
use Rattle.words.specs.Outcomes.{by_row}
use Rattle.words.specs.declared.Refusal.{Refusal}
use Rattle.formula.specs.Check.{checked_of}
use Rattle.counted.specs.Inner.Guards.{early}
use Rattle.counted.proofs.guard.is_early.Goals as goal

said : (o : Result (Unit {0}) Refusal) (r : Bool) → MatchResult o (λ u. r ≡ false) (λ e. r ≡ (ltb e.0 12 || eqb e.0 23)) → (n : ℕ) → o ≡ checked_of n → r ≡ early n
unfolding checked_of
said (Ok u) r h zero e = h
said (Ok u) r h (suc n) e = absurd cc
said (Err x) r h zero e = absurd cc
said (Err x) r h (suc n) e =
    let f : x ≡ by_row (suc n) = cc in
    h ∙ rw (f, ne_eqb (suc n) 0 (λ z. omega arith)) (or_comm (ltb (suc n) 12) (eqb (suc n) 23))

told : (c : goal.After-is_err_and) → MatchResult c.args.asked (λ u. c.is_err_and.result ≡ false) (λ e. c.is_err_and.result ≡ (ltb e.0 12 || eqb e.0 23))
told c = search (rules, tests)

pub returns : goal.returns
returns c n e = said c.args.asked c.is_err_and.result (told c) n e
