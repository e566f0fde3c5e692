-- The last of the first i entries is taken back.
use Rattle.std.specs.Prelude.{ℕ, ◌+◌, ◌-◌, ◌<◌, ◌≡◌, List, ℤ, pos, get_or, take}
use Rattle.std.proofs.Common.{arith, rules, w32, FitsSigned}
use mir.ValLaws.{to_z-of_z}
use Rattle.theory.specs.Record.{among}
use Rattle.counted.specs.Inner.State.{Set}
use Rattle.counted.proofs.Laws.Entry.{unsetting}
use Rattle.counted.proofs.Laws.Numbers.{rest_on}
use Rattle.counted.specs.declared.walk.Bounds.{Bounds}
use Rattle.counted.proofs.entry.uncount_entries.Goals as goal

last_of : (p : List ℤ) (m : List (List ℤ)) (lits : List ℤ) (statuses ts os : List ℕ) (b : Bounds) (i : ℕ) → 0 < i → Set p m (among (take i lits)) statuses ts os b → Set p m (among (take (i - 1 + 1) lits)) statuses ts os b
last_of p m lits statuses ts os b i h s = let z : i - 1 + 1 ≡ i = omega arith in rw z s

pub bounds-lits-i : goal.bounds-lits-i
bounds-lits-i c = omega (arith, c.requires.taking.room)

pub uncount_entry-bounds-requires : goal.uncount_entry-bounds-requires
uncount_entry-bounds-requires c =
    let word : FitsSigned w32 (get_or c.args.lits.now (c.loop-i.i - 1) (pos 0)) = search rules in
    let x = c.requires.taking in
    rw (to_z-of_z w32 _ word) (unsetting _ _ _ _ _ _ _ _ _ x _ _ _ _ _ (omega arith) (last_of _ _ _ _ _ _ _ _ (omega arith) (c.loop-i.invariant.1 x).now_set))

pub loop-i-preserved : goal.loop-i-preserved
unfolding unsetting
loop-i-preserved c = (
  omega arith,
  λ x.
      let word : FitsSigned w32 (get_or c.args.lits.now (c.loop-i.i - 1) (pos 0)) = search rules in
      let before = c.loop-i.invariant.1 x in
      let now = (rw (to_z-of_z w32 _ word) at c.uncount_entry-bounds.ensures) (unsetting _ _ _ _ _ _ _ _ _ x _ _ _ _ _ (omega arith) (last_of _ _ _ _ _ _ _ _ (omega arith) before.now_set)) in
      record { now_set = now.now_set; rest = rest_on now.rest before.rest },
)
