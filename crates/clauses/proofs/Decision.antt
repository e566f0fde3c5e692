-- The lowest conflict and the lowest unit clause of all, from what one clause shows and the clauses after it: one that is neither is passed
-- over, one in conflict is the lowest, and after a unit clause only a conflict still counts.
use Rattle.std.specs.Prelude.{◌≡◌, refl, ℕ, zero, suc, ◌+◌, min, Bool, true, false, not, ◌||◌, cond, List, [], ◌∷◌, length, slice_get, eqb, ltb, ℤ, Option, Some, None, MatchOption, IfSome}
use Rattle.std.proofs.Common.{sym, ◌∙◌, ap, arith, add-one, ne_eqb, Bor}
use denote.Param.Members.{Mut, Called}
use Rattle.std.specs.List.{FoldsTo, position_or_len}
use Rattle.std.specs.Option.{option_map}
use Rattle.std.specs.Iterator.{YieldsFirstRef, Yields, FindsMapped}
use Rattle.std.specs.Iterator.Runs.{SomeRun, AllItemsGive, YieldsRun}
use Rattle.words.specs.Lists.{In, there, any}
use Rattle.record.specs.Found.{on_found, literal}
use Rattle.record.specs.Inner.Tables.{places}
use Rattle.clauses.specs.Found.{unit_clause}
use Rattle.clauses.specs.Lowest.{lowest}
use Rattle.clauses.specs.Inner.Clauses.{by_status, keeps_by, conflict_by, unit_literal, stays_unit, unit_if, sight_from, lowest_unit_by, deciding_by, decided_by, decisive}
use Rattle.clauses.specs.declared.clauses.Sight.{Sight}
use Rattle.clauses.specs.declared.clauses.Sight.TheVariants.{InConflict, UnitOn, Neither}
use Rattle.clauses.specs.declared.found.Deciding.{Deciding}
use Rattle.clauses.specs.declared.found.Deciding.TheVariants.{Conflict, Quiet}
use Rattle.clauses.proofs.Position.{lowest_after}

module _ (st lev : ℤ → ℕ) where
  abbrev is_conflict : Sight → Bool
  is_conflict InConflict = true
  is_conflict (UnitOn l) = false
  is_conflict Neither = false

  -- the literals read for both say whether it is in conflict
  conflict_seen : (above : ℕ) (C : List ℤ) → conflict_by st C ≡ is_conflict (sight_from st lev above C)
  unfolding conflict_by keeps_by sight_from any
  conflict_seen above [] = refl
  conflict_seen above (x ∷ C) = go (st x) _ _ (conflict_seen above C) (conflict_seen (min above (lev x)) C)
    where
      no_conflict : (b : Bool) → false ≡ is_conflict (cond b (UnitOn (literal x)) Neither)
      no_conflict true = refl
      no_conflict false = refl

      go : (s : ℕ) (a b : Sight) → conflict_by st C ≡ is_conflict a → conflict_by st C ≡ is_conflict b → not ((eqb s 1 || eqb s 2) || any (keeps_by st) C) ≡ is_conflict (by_status s a Neither (unit_if st lev x above C) b)
      go zero a b h k = h
      go (suc zero) a b h k = refl
      go (suc (suc zero)) a b h k = no_conflict (stays_unit st lev x above C)
      go (suc (suc (suc n))) a b h k = rw (ne_eqb (suc (suc (suc n))) 1 (λ z. omega arith), ne_eqb (suc (suc (suc n))) 2 (λ z. omega arith)) k

  -- what a clause and those after it make due, from what the clause shows: the lowest conflict and the lowest unit clause of all
  deciding_next : (c : ℕ) (C : List ℤ) (m : List (List ℤ)) {s : Sight} {r : Deciding} → sight_from st lev places C ≡ s → r ≡ decided_by st c s m (deciding_by st lev (c + 1) m) → r ≡ deciding_by st lev c (C ∷ m)
  unfolding deciding_by decided_by lowest lowest_unit_by
  deciding_next c C m {s = s} h e = e ∙ rw (conflict_seen places C, h) (go s)
    where
      go : (s : Sight) → decided_by st c s m (deciding_by st lev (c + 1) m) ≡ on_found (cond (is_conflict s) (Some c) (lowest (conflict_by st) (suc c) m)) Conflict (Quiet (on_found (unit_literal s) (λ l. Some (unit_clause l c)) (lowest_unit_by st lev (suc c) m)))
      go InConflict = refl
      go (UnitOn l) = ap (λ n. on_found (lowest (conflict_by st) n m) Conflict (Quiet (Some (unit_clause l c)))) (add-one c)
      go Neither = rw add-one

  -- ---- the search: those that decide nothing are passed over, up to the first that decides
  decisive_some : (s w : Sight) → Some w ≡ decisive s → (s ≡ w) × (w ≡ Neither → ⊥)
  decisive_some InConflict w e = let q : InConflict ≡ w = cc in (q, λ z. let y : InConflict ≡ Neither = q ∙ z in let o : ◌≡◌ {A = ℕ} 0 1 = cc in omega arith)
  decisive_some (UnitOn l) w e = let q : UnitOn l ≡ w = cc in (q, λ z. let y : UnitOn l ≡ Neither = q ∙ z in let o : ◌≡◌ {A = ℕ} 0 1 = cc in omega arith)
  decisive_some Neither w e = let z : ◌≡◌ {A = ℕ} 0 1 = cc in absurd (omega arith)

  decisive_none : (s : Sight) → None ≡ decisive s → s ≡ Neither
  decisive_none InConflict e = cc
  decisive_none (UnitOn l) e = cc
  decisive_none Neither e = refl

  -- m's first clause that decides shows s, and others are after it, the first of m being number n
  pub record First (n : ℕ) (m : List (List ℤ)) (s : Sight) (others : List (List ℤ)) : Type 0 where
    pub number : ℕ
    pub before : number + 1 + length others ≡ n + length m
    pub due : decided_by st number s others (deciding_by st lev (number + 1) others) ≡ deciding_by st lev n m
    pub decides : s ≡ Neither → ⊥
    pub left : (C : List ℤ) → In C others → In C m

  passed : (n : ℕ) (C : List ℤ) (m : List (List ℤ)) → None ≡ decisive (sight_from st lev places C) → deciding_by st lev (n + 1) m ≡ deciding_by st lev n (C ∷ m)
  unfolding decided_by
  passed n C m e = deciding_next n C m (decisive_none _ e) refl

  module _ {S : Type 0} (shown : S → List (List ℤ)) {F : Type 0} (g : Mut F (Bor (List ℤ) × Unit {0}) (Option Sight)) (f : F)
      (k : (x : Bor (List ℤ)) (r : Option Sight) (q : F) → Called g f (x, tt) r q → (q ≡ f) × (r ≡ decisive (sight_from st lev places x.now))) where
    abbrev steps : S → Option (Bor (List ℤ)) → S → Type 0
    steps = YieldsFirstRef shown

    called : (p : F) (x : Bor (List ℤ)) (r : Option Sight) (q : F) → p ≡ f → Called g p (x, tt) r q → (q ≡ f) × (r ≡ decisive (sight_from st lev places x.now))
    called p x r q e c = k x r q (rw e at c)

    first : (n : ℕ) (xs : List (Bor (List ℤ))) (s t u : S) (o : Option (Bor (List ℤ))) (p j : F) (r : Option Sight) (w : Sight) → r ≡ Some w → p ≡ f → Yields steps s xs t → steps t o u → FoldsTo (λ p x q. Called g p (x, tt) None q) p xs j
        → MatchOption o (r ≡ None) (λ x. (h : F) × Called g j (x, tt) r h) → First n (shown s) w (shown u)
    first n [] s t u None p j r w i e y l d m = let z : ◌≡◌ {A = ℕ} 0 1 = cc in absurd (omega arith)
    first n [] s t u (Some x) p j r w i e y l d m =
        let a : (sight_from st lev places x.now ≡ w) × (w ≡ Neither → ⊥) = decisive_some _ w (sym i ∙ (called j x r m.0 (sym d ∙ e) m.1).1) in
        let both : shown s ≡ x.now ∷ shown u = ap shown y ∙ l in
        record { number = n; before = rw both (omega arith); due = rw both (deciding_next n x.now (shown u) a.0 refl); decides = a.1; left = λ D i. rw both (there i) }
    first n (x ∷ xs) s t u o p j r w i e y l d m =
        let a = called p x None d.0 e d.1 in
        let on = first (n + 1) xs y.0 t u o d.0 j r w i a.0 y.2 l d.2 m in
        record { number = on.number; before = rw y.1 (omega (arith, on.before)); due = on.due ∙ rw y.1 (passed n x.now (shown y.0) a.1); decides = on.decides; left = λ D i. rw y.1 (there (on.left D i)) }

    none : (n : ℕ) (xs : List (Bor (List ℤ))) (s t u : S) → Yields steps s xs t → steps t None u → ((i : ℕ) → IfSome (slice_get xs i) (λ x. Called g f (x, tt) None f)) → Quiet None ≡ deciding_by st lev n (shown s)
    unfolding deciding_by lowest lowest_unit_by
    none n [] s t u y l c = rw (ap shown y ∙ l.0) refl
    none n (x ∷ xs) s t u y l c = none (n + 1) xs y.0 t u y.2 l (λ i. c (suc i)) ∙ rw y.1 (passed n x.now (shown y.0) (k x None f (c 0)).1)

    -- as `find_map` says it
    pub first_found : (s u : S) (r : Option Sight) (w : Sight) → r ≡ Some w → FindsMapped steps g s f r u → First 0 (shown s) w (shown u)
    first_found s u r w i (xs, o, j, y, d, m) = first 0 xs s y.0 u o f j r w i refl y.1 y.2 d m

    -- and with none, as the run says it that went on to its end
    pub none_found : (s : S) → SomeRun steps s (λ p. (p.whole ≡ true) × AllItemsGive p g f None) → Quiet None ≡ deciding_by st lev 0 (shown s)
    unfolding YieldsRun
    none_found s (p, i, w) =
        let y = p.gave in
        let end = y.0.2 w.0 in
        rw i at (none 0 p.items p.from y.0.0 end.0 y.0.1 end.1 (λ i. rw (y.1 i) at (w.1 (λ x r q h. (k x.0 r q h).0) i)))

  -- ---- what it makes due: in conflict, a unit clause
  module _ {n : ℕ} {m : List (List ℤ)} {s : Sight} {others : List (List ℤ)} (k : First n m s others) where
    pub conflict_due : s ≡ InConflict → Conflict k.number ≡ deciding_by st lev n m
    unfolding decided_by
    conflict_due e = rw e at k.due

    -- after which r is the place of the first in conflict among the others
    pub unit_due : (l : _) → s ≡ UnitOn l → (r : Option ℕ) → r ≡ cond (ltb (position_or_len (conflict_by st) others) (length others)) (Some (position_or_len (conflict_by st) others)) None
        → on_found r (λ at. Conflict (k.number + 1 + at)) (Quiet (Some (unit_clause l k.number))) ≡ deciding_by st lev n m
    unfolding decided_by
    unit_due l e r p = go r (lowest_after (conflict_by st) (k.number + 1) others r p) ∙ rw e at k.due
      where
        go : (r : Option ℕ) → lowest (conflict_by st) (k.number + 1) others ≡ option_map (λ at. k.number + 1 + at) r
            → on_found r (λ at. Conflict (k.number + 1 + at)) (Quiet (Some (unit_clause l k.number))) ≡ on_found (lowest (conflict_by st) (k.number + 1) others) Conflict (Quiet (Some (unit_clause l k.number)))
        go None q = rw q refl
        go (Some at) q = rw q refl
