-- Decide's literal and its kind are read from the tables; any other rule is applied as the rules do it.
use Rattle.std.specs.Prelude.{◌≡◌, ℕ, List, ℤ, pos, length, get_or, nat_abs}
use Rattle.std.proofs.Common.{◌∙◌, ap, arith, rules, sym, w32, FitsSigned}
use mir.ValLaws.{to_z-of_z}
use Rattle.formula.specs.Formula.{prefix_of}
use Rattle.formula.specs.Limits.{limits}
use Rattle.formula.specs.Block.{refusal}
use Rattle.formula.specs.Laws.Limits.{variables_are}
use Rattle.record.proofs.Laws.Accepted.{prefix_length, accepted_bound}
use Rattle.record.proofs.Laws.Records.{kept_more}
use Rattle.search.proofs.Laws.Named.{fitting}
use Rattle.counted.specs.Inner.Decided.{preferred_at}
use Rattle.counted.proofs.Laws.Decided.{first_small, decided_named, decide_enacts, decide_room}
use Rattle.counted.proofs.decided.enact.Goals as goal
use Rattle.counted.proofs.decided.enact.Goals.{After-size-2}

pub apply-requires : goal.apply-requires
apply-requires c = record { on_block = c.requires.on; fitting = rw c.requires.is (fitting c.requires.on) }

counted : (b : List ℤ) → refusal limits b ≡ 0 → {n : ℕ} → n ≡ nat_abs (get_or b 0 (pos 0)) → n ≡ length (prefix_of b)
counted b on e = e ∙ sym (prefix_length limits b on)

pub bounds-fixed-size : goal.bounds-fixed-size
bounds-fixed-size c =
    let word : FitsSigned w32 c.in-Decide.first.0 = search rules in
    let sized : c.size.result ≡ nat_abs c.in-Decide.first.0 = c.size.ensures ∙ ap nat_abs (to_z-of_z w32 _ word) in
    omega (arith, first_small _ _ _ _ _ _ _ c.requires _ c.in-Decide.is c.args.preferred.now, variables_are)

pub preferred_of-literal-requires : goal.preferred_of-literal-requires
preferred_of-literal-requires c = omega (arith, counted _ c.requires.on.block c.size_at-n.ensures, (accepted_bound _ c.requires.on.block).room)

-- what Decide takes
module _ (c : After-size-2) where
  sized : c.size.result ≡ nat_abs c.in-Decide.first.0
  sized = let word : FitsSigned w32 c.in-Decide.first.0 = search rules in c.size.ensures ∙ ap nat_abs (to_z-of_z w32 _ word)

  sized_2 : c.size-2.result ≡ nat_abs c.preferred_of-literal.result.0
  sized_2 = let word : FitsSigned w32 c.preferred_of-literal.result.0 = search rules in c.size-2.ensures ∙ ap nat_abs (to_z-of_z w32 _ word)

  taken : c.preferred_of-literal.result ≡ preferred_at (length (prefix_of c.args.block.now)) c.args.statuses.now c.args.fixed.now.levels.now (get_or c.args.fixed.now.levels.now (nat_abs c.in-Decide.first.0) 0) c.args.preferred.now c.in-Decide.first
  taken = rw (← counted _ c.requires.on.block c.size_at-n.ensures, ← sized) c.preferred_of-literal.ensures

pub bounds-fixed-size-2 : goal.bounds-fixed-size-2
bounds-fixed-size-2 c =
    let at = (goal.at.bounds-fixed-size-2 c).After-size-2 in
    let named = decided_named _ _ _ _ _ _ _ c.requires _ c.in-Decide.is _ (taken at) in
    omega (arith, sized_2 at, named.most, (accepted_bound _ c.requires.on.block).room, variables_are)

pub append-requires : goal.append-requires
append-requires c = kept_more c.requires.on.kept (decide_room _ _ _ _ _ _ _ c.requires _ c.in-Decide.is c.args.preferred.now)

pub returns : goal.returns
returns c =
    let at = (goal.at.returns c).After-size-2 in
    decide_enacts _ _ _ _ _ _ _ c.requires _ c.in-Decide.is _ (taken at) _ (ap (λ (i : ℕ). get_or c.args.fixed.now.quantifiers.now i 0) (sized_2 at)) _ c.append.ensures
