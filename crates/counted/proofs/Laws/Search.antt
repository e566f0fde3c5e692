-- The steps of a counted search: one entry counted, one step, the numbers at the end.
use Rattle.std.specs.Prelude.{ℕ, ◌≡◌, refl, true, false, List, ℤ, pos, get_or, take}
use Rattle.theory.specs.Record.{among}
use Rattle.theory.specs.Grown.{put}
use Rattle.record.specs.declared.rule.State.{State}
use Rattle.search.specs.Run.{over}
use Rattle.counted.specs.Inner.Entry.{Setting}
use Rattle.counted.specs.Inner.State.{SetFrom}
use Rattle.counted.specs.Inner.Search.{Recounting, counted_to}
use Rattle.counted.proofs.Laws.Entry.{put_last}
use Rattle.counted.specs.declared.walk.Bounds.{Bounds}

-- ---- the entry at a place
module _ (lits : List ℤ) (at : ℕ) (state : State) (stops index statuses ts os : List ℕ) (b : Bounds) (x : Recounting lits at state stops index statuses ts os b) where
  pub recount_over : over state ≡ true → SetFrom x.p x.m (among (take (counted_to at state) lits)) ts os statuses ts os b
  recount_over e = rw e (record { now_set = x.now_set; rest = record { trues = refl; opens = refl } })

  module _ (e : over state ≡ false) where
    abbrev pub entering : Setting (get_or lits at (pos 0)) stops index statuses ts os b
    entering = record {
      p = x.p;
      m = x.m;
      ls = x.ls;
      ρ = among (take at lits);
      indexed = x.indexed;
      once = x.once;
      room = x.room;
      named = (x.entrant e).named;
      free = (x.entrant e).free;
      now_set = x.now_set;
    }

    pub entered_is : {statuses' ts' os' : List ℕ} {b' : Bounds} → SetFrom x.p x.m (put (get_or lits at (pos 0)) (among (take at lits))) ts os statuses' ts' os' b'
        → SetFrom x.p x.m (among (take (counted_to at state) lits)) ts os statuses' ts' os' b'
    entered_is s = rw (e, put_last lits at (x.entrant e).inside) s
