-- A place within the table is stored to; a store past its end would change nothing.
use Rattle.std.proofs.Common.{◌≡◌, sym, ◌∙◌, ap, rules, pos, ℤ, length, true, get_or, set, ◌<◌, drop, List, ◌+◌, ◌≤◌, ℕ, Bool, arith}
use Rattle.std.specs.Prelude.{nat_abs}
use Rattle.laid.specs.Inner.Marks.{marked}
use Rattle.laid.specs.Laws.Marks.{mark_turn, mark_past, mark_ended}
use Rattle.laid.proofs.prefix.mark.Goals as goal
use Rattle.laid.proofs.prefix.mark.Goals.{then-v-lt-TABLE, else-v-lt-TABLE}

turn : (t t' m : List Bool) (ws : List ℤ) (i v : ℕ) → v ≡ nat_abs (get_or ws i (pos 0)) → i < length ws → t' ≡ set t v true → marked t (drop i ws) ≡ m → marked t' (drop (i + 1) ws) ≡ m
turn t t' m ws i v e h s k = rw (s, e) (mark_turn t ws i h ∙ k)

past : (t t' m : List Bool) (ws : List ℤ) (i v : ℕ) → v ≡ nat_abs (get_or ws i (pos 0)) → i < length ws → length t ≤ v → t' ≡ t → marked t (drop i ws) ≡ m → marked t' (drop (i + 1) ws) ≡ m
past t t' m ws i v e h n s k = rw s (mark_past t ws i h (rw (← e) n) ∙ k)

pub loop-w-preserved : goal.loop-w-preserved
loop-w-preserved c = elim c.if-v-lt-TABLE.branch [
  | then-v-lt-TABLE w ↦ turn c.loop-w.table c.if-v-lt-TABLE.table _ c.args.ws.now c.loop-w.w-index c.size-v.result (search rules) (search rules) (search rules) c.loop-w.invariant
  | else-v-lt-TABLE w ↦ past c.loop-w.table c.if-v-lt-TABLE.table _ c.args.ws.now c.loop-w.w-index c.size-v.result (search rules) (search rules) (omega (arith, ap length w.table-is)) w.table-is c.loop-w.invariant
]

pub returns : goal.returns
returns c = sym (mark_ended _ _ _ c.loop-w-test.false) ∙ c.loop-w.invariant
