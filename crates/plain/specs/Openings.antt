-- [plain.listing] The second opinion and the listing, opening by opening: an opening is in the whole listing exactly if the recursion of the opinion,
-- begun after the first group with the opening's values, is true. Both ask the same truth, and the order of the values doesn't matter.
use Rattle.std.specs.Prelude.{ℕ, ◌<◌, ◌≡◌, ◌↔◌, Bool, true, List, [], ◌∷◌, ℤ}
use Rattle.std.proofs.Common.{sym, ◌∙◌}
use Rattle.words.specs.Lists.{In, here, there}
use Rattle.formula.specs.Limits.{Limits}
use Rattle.formula.specs.Formula.{Formula, first_group, formula_of}
use Rattle.theory.specs.Witness.{group_of}
use Rattle.listing.specs.Opening.{openings, values_of}
use Rattle.listing.specs.Wins.{winners, entries, winners_exactly}
use Rattle.listing.proofs.AllPages.{any_pages}
use Rattle.listing.specs.Pages.{Given, pages_from0}
use Rattle.listing.proofs.Covers.{wins_onto}
use Rattle.listing.specs.Onto.{onto}
use Rattle.plain.specs.Solve.{holds_from}

-- an entry of the opening n is among those of a listing's words
pub data Entered (n : ℕ) : List ℕ → Type 0 where
  first : {m w : ℕ} {ws : List ℕ} → n ≡ m → Entered n (m ∷ w ∷ ws)
  later : {m w : ℕ} {ws : List ℕ} → Entered n ws → Entered n (m ∷ w ∷ ws)

-- the recursion, begun after the first group with the values of the opening n, the newest first
abbrev pub holds_on : Formula → ℕ → Bool
holds_on F n = holds_from F (first_group F.prefix) (onto (values_of n (group_of F)) [])

entered : {n : ℕ} {ns : List ℕ} → In n ns → Entered n (entries ns)
unfolding entries
entered (here e) = first e
entered (there i) = later (entered i)

listed : {n : ℕ} (ns : List ℕ) → Entered n (entries ns) → In n ns
unfolding entries
listed (m ∷ ns) (first e) = here e
listed (m ∷ ns) (later i) = there (listed ns i)
listed {n = n} [] x' = elim x' [ ]

pub plain_opening : (L : Limits) (b : List ℤ) (ps : List Given) → let F = formula_of b in (pages_from0 L b ps).next ≡ openings F
    → (n : ℕ) → n < openings F → Entered n (pages_from0 L b ps).written ↔ (holds_on F n ≡ true)
unfolding holds_from
plain_opening L b ps end n h = rw ((any_pages L b ps).whole end) (there_is, back)
  where
    F : Formula
    F = formula_of b

    there_is : Entered n (entries (winners F (openings F))) → holds_on F n ≡ true
    there_is i = wins_onto F n ∙ ((winners_exactly F (openings F) n).0 (listed (winners F (openings F)) i)).1

    back : holds_on F n ≡ true → Entered n (entries (winners F (openings F)))
    back e = entered ((winners_exactly F (openings F) n).1 (h, sym (wins_onto F n) ∙ e))
