-- Along a walk over the clauses every word has a place: an item of a list, a part of the literal words, each clause.
use Rattle.std.specs.Prelude.{ℕ, ◌+◌, ◌-◌, ◌≤◌, ◌<◌, ◌≡◌, ◌⊎◌, true, false, List, [], ◌∷◌, ltb, ℤ, pos, nat_abs, length, get_or, take, drop}
use Rattle.std.proofs.Common.{zero-le, ◌∙◌, ap, inl, inr, arith, length-take, get_or-take, get_or-drop, ltb-false}
use Rattle.std.proofs.Math.ListN.{get_or-eq_default}
use Rattle.std.proofs.lemmas.List.{get_or_default}
use borrow.Author.Tests.{ltb-true}
use Rattle.words.specs.Lists.{In, here, there}
use Rattle.words.specs.Laws.Bools.{look}
use Rattle.formula.specs.Limits.{limits}
use Rattle.formula.specs.Formula.{clauses_from}
use Rattle.clauses.specs.Inner.Clauses.{Placed}

-- an item that an iterator gives has a place
pub item_placed : (ws : List ℤ) → Placed ws → (w : ℤ) (i : ℕ) → i < length ws → w ≡ get_or ws i w → nat_abs w ≤ limits.variables
item_placed ws p w i h is = let e = ap nat_abs (is ∙ get_or_default ws i w (pos 0) h) in omega (arith, p i, e)

-- every word of a part has a place
pub placed_part : (ls : List ℤ) (k j : ℕ) → Placed ls → Placed (take k (drop j ls))
placed_part ls k j p i = go (look (ltb i k))
  where
    go : (ltb i k ≡ true) ⊎ (ltb i k ≡ false) → nat_abs (get_or (take k (drop j ls)) i (pos 0)) ≤ limits.variables
    go (inl h) = rw (get_or-take k (drop j ls) i (pos 0) (ltb-true i k h), get_or-drop j ls i (pos 0)) (p (j + i))
    go (inr h) =
        let l : k ≤ i = ltb-false i k h in
        let m : length (take k (drop j ls)) ≤ i = simp length-take (omega arith) in
        rw (get_or-eq_default (take k (drop j ls)) (pos 0) m) zero-le

-- so each clause's words have one
pub clauses_placed : (ls : List ℤ) → Placed ls → (from : ℕ) (es : List ℤ) (C : List ℤ) → In C (clauses_from ls from es) → Placed C
unfolding clauses_from
clauses_placed ls p from [] C i = elim i [ ]
clauses_placed ls p from (e ∷ es) C (here q) = rw q (placed_part ls (nat_abs e - from) from p)
clauses_placed ls p from (e ∷ es) C (there i) = clauses_placed ls p (nat_abs e) es C i
