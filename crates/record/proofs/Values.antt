-- The table of values: an entry gives its variable a value, and no other one.
use mathlib.Core.Path.{◌≡◌, sym, ◌∙◌, refl}
use mathlib.Core.Bool.{false}
use mathlib.Core.List.{List, [], ◌∷◌, ◌++◌}
use Prim.Native.Nat.{ℕ, ◌+◌, ◌<◌, zero, suc}
use native.Mathlib.Omega.{arith}
use lib.IntN.{ℤ, pos, nat_abs, negsuc}
use lib.ListN.{length, get_or, take, set, replicate}
use Rattle.words.specs.Lists.{any}
use Rattle.formula.specs.Limits.{limits}
use Rattle.formula.specs.Laws.Named.{all_named}
use Rattle.formula.specs.Inner.Named.{Named}
use Rattle.theory.specs.Record.{among}
use Rattle.record.specs.Inner.Tables.{places, Known, sign_of, value_in}
use Rattle.words.specs.Words.{eq_z, mem}
use Rattle.words.specs.Laws.Words.{mem_here, mem_other, plus_other, minus_other}
use Rattle.formula.specs.Block.{names, twice}
use Rattle.formula.specs.Laws.Prefix.{fresh_word, fresh_at}
use Rattle.record.proofs.Laws.Filled.{Filled, begin, turn, placed}

-- what the entries say of a variable
abbrev pub valued : List ℤ → ℕ → ℕ
valued xs v = value_in (among xs) v

pub value_other : (xs : List ℤ) (w : ℤ) (v : ℕ) → (v ≡ nat_abs w → ⊥) → valued (xs ++ w ∷ []) v ≡ valued xs v
value_other xs w v k = rw (plus_other xs w v k, minus_other xs w v k)

pub value_new : (n : ℕ) (xs : List ℤ) (w : ℤ) → Named n w → any (names (nat_abs w)) xs ≡ false → sign_of w ≡ valued (xs ++ w ∷ []) (nat_abs w)
unfolding eq_z
value_new n xs (pos zero) h f = absurd (omega arith)
value_new n xs (pos (suc k)) h f = rw (mem_here xs (pos (suc k)))
value_new n xs (negsuc k) h f = rw (mem_other (pos (suc k)) xs (negsuc k) refl, fresh_word (pos (suc k)) xs f, mem_here xs (negsuc k))

-- ---- the loop over words of different variables
pub values_begin : (ws : List ℤ) → Filled valued places ws (replicate places 0) 0
unfolding mem
values_begin ws = begin valued places ws (λ v. refl)

pub values_turn : (ws : List ℤ) → Known ws → twice ws ≡ false → (t : List ℕ) (i : ℕ) → Filled valued places ws t i → i < length ws
    → (s a : ℕ) → s ≡ nat_abs (get_or ws i (pos 0)) → a ≡ sign_of (get_or ws i (pos 0)) → Filled valued places ws (set t s a) (i + 1)
values_turn ws known once t i f h s a is new =
    let word = (all_named limits.variables ws known).at i h in
    turn valued places ws t i f h s a (placed ws i s known h is)
    (rw is (new ∙ value_new limits.variables (take i ws) (get_or ws i (pos 0)) word (fresh_at ws once i h)))
    (λ v k. value_other (take i ws) (get_or ws i (pos 0)) v (λ e. k (e ∙ sym is)))
