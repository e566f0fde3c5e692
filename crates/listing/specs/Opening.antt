-- An opening: how many there are, the values that its number gives to the first group, and its search.
use Rattle.std.specs.Prelude.{ℕ, ◌^◌, ◌/◌, ◌%◌, cond, List, [], ◌∷◌, eqb, ℤ, pos, neg_ℤ, nat_abs, length}
use Rattle.std.proofs.lemmas.List.Edits.{sets}
use Rattle.formula.specs.Formula.{Formula, first_group}
use Rattle.theory.specs.Witness.{group_of}
use Rattle.record.specs.declared.rule.State.{State}
use Rattle.record.specs.declared.rule.State.TheVariants.{Open}
use Rattle.record.specs.Search.{Search, search}
use Rattle.record.specs.Trail.{Trail, wiped_trail, trail}
use Rattle.search.specs.Run.{run_from}

-- [opening] how many openings there are, 2^k
abbrev pub openings : Formula → ℕ
openings F = 2 ^ first_group F.prefix

-- [opening.bits] the value that the number n gives to the word q by its bit at place j, and those of a group
abbrev pub value_at : ℕ → ℕ → ℤ → ℤ
value_at n j q = cond (eqb (n / 2 ^ j % 2) 1) (pos (nat_abs q)) (neg_ℤ (pos (nat_abs q)))

unfoldable pub values_of : ℕ → List ℤ → List ℤ
values_of n [] = []
values_of n (q ∷ qs) = value_at n (length qs) q ∷ values_of n qs

-- [opening.start] where the search of an opening starts: the first V places are 0, but for the values at the start of the record
unfoldable pub opening_start : Formula → Trail → ℕ → Search
opening_start F work n =
    let blank = wiped_trail work 0 (length F.prefix) in
    search (trail (sets blank.lits 0 (values_of n (group_of F))) blank.kinds) (first_group F.prefix) Open

-- its search, within the budget, and the state that this comes to
abbrev pub opening_search : Formula → List ℤ → ℕ → Trail → ℕ → Search
opening_search F preferred budget work n = (run_from F preferred budget (opening_start F work n) 0).reached

abbrev pub opening_end : Formula → List ℤ → ℕ → Trail → ℕ → State
opening_end F preferred budget work n = (opening_search F preferred budget work n).state
