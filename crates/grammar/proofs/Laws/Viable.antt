-- Viable: a state that is not dead can be brought to a text's end. So what the machine has taken can go on to a text.
use Rattle.std.specs.Prelude.{◌≡◌, refl, Bool, true, false, List, [], ◌∷◌, ◌++◌, ℕ}
use Rattle.std.proofs.Common.{◌∙◌}
use Rattle.words.specs.Laws.Bools.{clash}
use Rattle.grammar.specs.Grammar.{Text, feed, space, '0', 'c', 'f', 'n', 'p', digit, nonzero, printable, Spells}
use Rattle.grammar.specs.declared.Place.{Place}
use Rattle.grammar.specs.declared.Place.TheVariants.{AtHead, AtCnf, AtFirst, AtSecond, AtLine, AtNumber, AtNumbers, AtLiterals, AtEnd}
use Rattle.grammar.specs.declared.Slot.{Slot}
use Rattle.grammar.specs.declared.Slot.TheVariants.{OfVariables, OfCount, OfGroup, OfClause}
use Rattle.grammar.specs.declared.State.{State}
use Rattle.grammar.specs.declared.State.TheVariants.{Dead, Fresh, Before, Parted, InNumber, Remark, AfterC, AfterCn, AfterMinus}
use Rattle.grammar.specs.Machine.{alive, fresh, rows, choose, blank, between, parted, past, move, start, reach, trace, shift}
use Rattle.grammar.proofs.Laws.Left.{sound}

pub last_is : (s : State) (n : ℕ) (bs : List ℕ) → (trace s n bs).last ≡ reach s bs
unfolding trace reach
last_is s n [] = refl
last_is s n (b ∷ bs) = last_is (move s b).to (shift s b n) bs

-- over two pieces, one after the other; and once dead, for good
pub reach_append : (s : State) (xs ys : List ℕ) → reach s (xs ++ ys) ≡ reach (reach s xs) ys
unfolding reach
reach_append s [] ys = refl
reach_append s (x ∷ xs) ys = reach_append (move s x).to xs ys

pub reach_dead : (xs : List ℕ) → reach Dead xs ≡ Dead
unfolding reach move
reach_dead [] = refl
reach_dead (x ∷ xs) = reach_dead xs

pub dead_is : (s : State) → alive s ≡ false → s ≡ Dead
unfolding alive
dead_is Dead h = refl
dead_is (Fresh more) h = clash refl h
dead_is (Before k) h = clash refl h
dead_is (Parted k) h = clash refl h
dead_is (InNumber f) h = clash refl h
dead_is Remark h = clash refl h
dead_is AfterC h = clash refl h
dead_is AfterCn h = clash refl h
dead_is AfterMinus h = clash refl h

pub fresh_state : (s : State) → fresh s ≡ true → (more : Bool) × (s ≡ Fresh more)
unfolding fresh
fresh_state Dead h = clash h refl
fresh_state (Fresh more) h = (more, refl)
fresh_state (Before k) h = clash h refl
fresh_state (Parted k) h = clash h refl
fresh_state (InNumber f) h = clash h refl
fresh_state Remark h = clash h refl
fresh_state AfterC h = clash h refl
fresh_state AfterCn h = clash h refl
fresh_state AfterMinus h = clash h refl

-- bytes that bring the state to a text's end
abbrev Done : State → Type 0
Done s = (rest : List ℕ) × (more : Bool) × (reach s rest ≡ Fresh more)

at_ends : (k : Place) → Done (Before k)
unfolding reach move between parted past blank choose rows digit nonzero
at_ends AtHead = ('p' ∷ space ∷ 'c' ∷ 'n' ∷ 'f' ∷ space ∷ '0' ∷ space ∷ '0' ∷ feed ∷ [], _, refl)
at_ends AtCnf = ('c' ∷ 'n' ∷ 'f' ∷ space ∷ '0' ∷ space ∷ '0' ∷ feed ∷ [], _, refl)
at_ends AtFirst = ('0' ∷ space ∷ '0' ∷ feed ∷ [], _, refl)
at_ends AtSecond = ('0' ∷ feed ∷ [], _, refl)
at_ends (AtLine true) = ('0' ∷ feed ∷ [], _, refl)
at_ends (AtLine false) = ('0' ∷ feed ∷ [], _, refl)
at_ends AtNumber = (49 ∷ space ∷ '0' ∷ feed ∷ [], _, refl)
at_ends AtNumbers = ('0' ∷ feed ∷ [], _, refl)
at_ends AtLiterals = ('0' ∷ feed ∷ [], _, refl)
at_ends (AtEnd more) = (feed ∷ [], _, refl)

-- by one byte more
to_end : (s : State) (b : ℕ) → Done (move s b).to → Done s
unfolding reach
to_end s b (rest, more, e) = (b ∷ rest, more, e)

need_ends : (k : Place) → Done (Parted k)
unfolding move parted blank
need_ends k = to_end (Parted k) space (at_ends k)

digits_ends : (f : Slot) → Done (InNumber f)
unfolding move past between parted blank digit
digits_ends OfVariables = to_end (InNumber OfVariables) space (at_ends AtSecond)
digits_ends OfCount = to_end (InNumber OfCount) space (at_ends (AtEnd true))
digits_ends OfGroup = to_end (InNumber OfGroup) space (at_ends AtNumbers)
digits_ends (OfClause s) = to_end (InNumber (OfClause s)) space (at_ends AtLiterals)

state_ends : (s : State) → alive s ≡ true → Done s
unfolding alive move printable nonzero reach
state_ends Dead h = clash h refl
state_ends (Fresh more) h = ([], more, refl)
state_ends (Before k) h = at_ends k
state_ends (Parted k) h = need_ends k
state_ends (InNumber f) h = digits_ends f
state_ends Remark h = to_end Remark feed (at_ends AtHead)
state_ends AfterC h = to_end AfterC 'n' (to_end AfterCn 'f' (need_ends AtFirst))
state_ends AfterCn h = to_end AfterCn 'f' (need_ends AtFirst)
state_ends AfterMinus h = to_end AfterMinus 49 (digits_ends (OfClause true))

-- what the machine has taken is the beginning of a text
pub viable : (bs : List ℕ) → alive (reach start bs) ≡ true → (rest : List ℕ) × (t : Text) × Spells (bs ++ rest) t
viable bs h =
    let (rest, more, e) = state_ends (reach start bs) h in
    let r = sound (bs ++ rest) more (last_is start 0 (bs ++ rest) ∙ reach_append start bs rest ∙ e) in
    (rest, r.text, r.spells)
