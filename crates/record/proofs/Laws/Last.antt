-- The last entry of a kind: it stands where the search says, and no later one has the kind; going backward along the kinds finds it too.
use Rattle.std.specs.Prelude.{ℕ, zero, suc, ◌+◌, ◌<◌, ◌≡◌, refl, Bool, true, false, cond, [], ◌∷◌, ◌++◌, eqb, length, get_or, take, drop, ◌≤◌, Option, Some, None, MatchOption, List}
use Rattle.std.proofs.Common.{sym, ◌∙◌, ap, arith, eqb-true, eq-eqb, ne_eqb}
use Rattle.std.proofs.Math.Decide.{ℕ_discrete}
use Rattle.std.proofs.lemmas.List.{get_or-take, length-take-le}
use Rattle.words.specs.Laws.Bools.{and_i, not_f}
use Rattle.words.specs.Lists.{all}
use Rattle.theory.specs.Record.{Entry, Record, without}
use Rattle.record.specs.Trail.{Trail, record_of, entry_at, no_entry}
use Rattle.record.specs.Found.{on_found, last}
use Rattle.record.specs.Inner.Ready.{Room}
use Rattle.record.specs.Inner.Buffers.{last_kind}
use Rattle.record.proofs.Laws.Records.{room_less, record_length, record_more}

pub record Last (k : ℕ) (r : Record) (i : ℕ) : Type 0 where
  pub inside : i < length r
  pub kind : (get_or r i no_entry).kind ≡ k
  pub none_after : without k (drop (suc i) r) ≡ true

pub last_none : (k m : ℕ) (r : Record) → last k m r ≡ None → without k r ≡ true
unfolding last without all
last_none k m [] e = refl
last_none k m (x ∷ r) e = go (last k (suc m) r) (eqb x.kind k) (last_none k (suc m) r) refl refl e
  where
    go : (o : Option ℕ) (b : Bool) → (last k (suc m) r ≡ None → without k r ≡ true) → last k (suc m) r ≡ o → eqb x.kind k ≡ b → on_found o Some (cond b (Some m) None) ≡ None → without k (x ∷ r) ≡ true
    go (Some j) b ih p q e = let z : ◌≡◌ {A = ℕ} 0 1 = cc in absurd (omega arith)
    go None true ih p q e = let z : ◌≡◌ {A = ℕ} 0 1 = cc in absurd (omega arith)
    go None false ih p q e = and_i (not_f q) (ih p)

-- where the first entry has the number m
last_found : (k m : ℕ) (r : Record) (j : ℕ) → last k m r ≡ Some j → (i : ℕ) × (j ≡ m + i) × Last k r i
unfolding last
last_found k m [] j e = let z : ◌≡◌ {A = ℕ} 0 1 = cc in absurd (omega arith)
last_found k m (x ∷ r) j e = go (last k (suc m) r) (eqb x.kind k) (last_found k (suc m) r) refl refl e
  where
    go : (o : Option ℕ) (b : Bool) → ((j : ℕ) → last k (suc m) r ≡ Some j → (i : ℕ) × (j ≡ suc m + i) × Last k r i) → last k (suc m) r ≡ o → eqb x.kind k ≡ b → on_found o Some (cond b (Some m) None) ≡ Some j → (i : ℕ) × (j ≡ m + i) × Last k (x ∷ r) i
    go (Some j') b ih p q e =
        let z : j' ≡ j = cc in
        let (i, s, w) = ih j' p in
        (suc i, omega arith, record { inside = omega arith; kind = w.kind; none_after = w.none_after })
    go None true ih p q e =
        let z : m ≡ j = cc in
        (0, omega arith, record { inside = omega arith; kind = eqb-true x.kind k q; none_after = last_none k (suc m) r p })
    go None false ih p q e = let z : ◌≡◌ {A = ℕ} 0 1 = cc in absurd (omega arith)

pub last_at : (k : ℕ) (r : Record) (i : ℕ) → last k 0 r ≡ Some i → Last k r i
last_at k r i e =
    let (j, s, w) = last_found k 0 r i e in
    let z : j ≡ i = omega arith in
    rw z at w

-- ---- backward
last_more : (k m : ℕ) (r : Record) (x : Entry) → last k m (r ++ x ∷ []) ≡ cond (eqb x.kind k) (Some (m + length r)) (last k m r)
unfolding last
last_more k m [] x = let z : m + 0 ≡ m = omega arith in rw z
last_more k m (y ∷ r) x = rw (last_more k (suc m) r x) (go (eqb x.kind k))
  where
    go : (b : Bool) → on_found (cond b (Some (suc m + length r)) (last k (suc m) r)) Some (cond (eqb y.kind k) (Some m) None) ≡ cond b (Some (m + suc (length r))) (on_found (last k (suc m) r) Some (cond (eqb y.kind k) (Some m) None))
    go true = let z : suc m + length r ≡ m + suc (length r) = omega arith in ap Some z
    go false = refl

pub last_kind_lem : (t : Trail) (k n : ℕ) → Room n t → last_kind t.kinds k n ≡ last k 0 (record_of t n)
unfolding last_kind last record_of
last_kind_lem t k zero r = refl
last_kind_lem t k (suc n) r =
    let r' : Room n t = room_less (omega arith) r in
    let y : 0 + n ≡ n = omega arith in
    rw (record_more t n r, last_more k 0 (record_of t n) (entry_at t n), record_length t n r', y, last_kind_lem t k n r')

-- ---- the one place that no later one of the kind follows
module _ (ks : List ℕ) (k : ℕ) where
  abbrev Other : ℕ → Type 0
  Other j = get_or ks j 0 ≡ k → ⊥

  no_kind : (n : ℕ) → ((j : ℕ) → j < n → Other j) → None ≡ last_kind ks k n
  unfolding last_kind
  no_kind zero h = refl
  no_kind (suc n) h = rw (ne_eqb (get_or ks n 0) k (h n (omega arith))) (no_kind n (λ j l. h j (omega arith)))

  this_kind : (n i : ℕ) → i < n → get_or ks i 0 ≡ k → ((j : ℕ) → i < j → j < n → Other j) → Some i ≡ last_kind ks k n
  unfolding last_kind
  this_kind zero i l e h = absurd (omega arith)
  this_kind (suc n) i l e h = elim (ℕ_discrete i n) [
    | yes z ↦ let q : get_or ks n 0 ≡ k = rw z at e in rw (eq-eqb (get_or ks n 0) k q, z)
    | no z ↦ rw (ne_eqb (get_or ks n 0) k (h n (omega arith) (omega arith))) (this_kind n i (omega arith) e (λ j p q. h j p (omega arith)))
  ]

  -- of the first n places, as a list of their own
  pub last_kind_is : (n : ℕ) → n ≤ length ks → (r : Option ℕ)
      → MatchOption r ((j : ℕ) → j < length (take n ks) → get_or (take n ks) j 0 ≡ k → ⊥)
      (λ i. (i < length (take n ks)) × (get_or (take n ks) i 0 ≡ k) × ((j : ℕ) → i < j → j < length (take n ks) → get_or (take n ks) j 0 ≡ k → ⊥))
      → r ≡ last_kind ks k n
  last_kind_is n room None h = let e = length-take-le n ks room in no_kind n (λ j l q. h j (omega arith) (get_or-take n ks j 0 l ∙ q))
  last_kind_is n room (Some i) h =
      let e = length-take-le n ks room in
      let l : i < n = omega (arith, h.0) in
      this_kind n i l (sym (get_or-take n ks i 0 l) ∙ h.1) (λ j p m q. h.2 j p (omega arith) (get_or-take n ks j 0 m ∙ q))
