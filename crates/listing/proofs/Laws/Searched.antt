-- The search of an opening: within its budget it goes on by rules of the theory from the opening's record, so where it ends its answer is the
-- truth of the rest, and with a budget of 2^(V+1-k) - 1 it does end.
use Rattle.std.specs.Prelude.{ℕ, suc, ◌-◌, ◌^◌, ◌≤◌, ◌≡◌, true, false, List, ℤ, length}
use Rattle.std.proofs.Common.{sym, ◌∙◌, arith}
use Rattle.formula.specs.Formula.{Formula, first_group}
use Rattle.formula.specs.Proper.{Proper}
use Rattle.theory.specs.Tests.{monotone_open}
use Rattle.theory.proofs.Laws.Assignment.{given_literals}
use Rattle.theory.specs.Start.{true_under}
use Rattle.theory.proofs.Laws.Group.{rest_group}
use Rattle.theory.specs.Rules.{going, Path}
use Rattle.theory.proofs.Laws.Monotone.{open_within}
use Rattle.theory.proofs.Theorem.{any_order_from}
use Rattle.theory.specs.Order.{AnyOrder}
use Rattle.theory.specs.Witness.{group_of}
use Rattle.record.specs.declared.rule.State.TheVariants.{Open, Valid, Unsat}
use Rattle.record.specs.Search.{standing_of}
use Rattle.record.specs.Inner.Ready.{Binds, Room}
use Rattle.search.specs.Run.{run_from}
use Rattle.search.proofs.Laws.Runs.{Travelled, travelled}
use Rattle.listing.specs.Opening.{values_of, opening_start, opening_search, opening_end}
use Rattle.listing.proofs.Laws.Start.{opened, Starts, starts}
use Rattle.listing.proofs.Laws.Values.{values_stand}
use Rattle.listing.specs.Wins.{wins}
use Rattle.record.specs.Trail.{Trail}

-- ---- the truth of the rest is what the theory speaks of
module _ (F : Formula) (ok : Proper F) (n : ℕ) where
  wins_under : true_under F (opened F n) ≡ wins F n
  unfolding wins
  wins_under = rw (given_literals (values_of n (group_of F)), rest_group F ok (values_of n (group_of F)) (values_stand n (group_of F)))

-- ---- the search of the opening n, on buffers that pass row 11
module _ (F : Formula) (ok : Proper F) (binds : Binds F.prefix) (work : Trail) (lent : Room (length F.prefix) work) (preferred : List ℤ) (budget n : ℕ) where
  begun : Starts F work n
  begun = starts F binds work n lent

  searched : Travelled F preferred budget (opening_start F work n) (run_from F preferred budget (opening_start F work n) 0)
  searched = travelled F preferred budget (opening_start F work n) begun.kept

  -- its rules lead from the opening's record
  search_path : Path F (run_from F preferred budget (opening_start F work n) 0).steps (going (opened F n)) (standing_of (opening_search F preferred budget work n))
  unfolding opening_start
  search_path = rw begun.held at searched.path

  -- [order.start] and of such paths the theory speaks
  any : AnyOrder monotone_open F (opened F n) (2 ^ (suc (length F.prefix) - length (opened F n))) (true_under F (opened F n))
  any = any_order_from open_within F ok (opened F n) begun.good begun.kinds

  -- where it ends, the recursive definition says so
  pub won : opening_end F preferred budget work n ≡ Valid → wins F n ≡ true
  won e = sym (wins_under F ok n) ∙ any.right true (rw e at search_path)

  pub lost : opening_end F preferred budget work n ≡ Unsat → wins F n ≡ false
  lost e = sym (wins_under F ok n) ∙ any.right false (rw e at search_path)

  -- it is still open only if it has used its budget, and then one rule more is due
  pub search_ends : 2 ^ (suc (length F.prefix) - first_group F.prefix) ≤ suc budget → opening_end F preferred budget work n ≡ Open → ⊥
  search_ends h o =
      let f = rw begun.count at (any.fewer (rw o at search_path)) in
      let e = searched.used o in
      omega arith
