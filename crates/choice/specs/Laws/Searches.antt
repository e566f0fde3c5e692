-- What a search for the first finds, and what it means that it finds nothing. By induction on the list that is searched.
use Rattle.std.specs.Prelude.{ℕ, ◌⊎◌, Bool, true, false, cond, ℤ, pos, nat_abs, Option, Some, None}
use Rattle.std.proofs.Math.Path.{◌≡◌, refl, ap}
use Rattle.std.proofs.Common.{sym, ◌∙◌, inl, inr, arith}
use mathlib.Core.List.{List, [], ◌∷◌, ◌++◌}
use Rattle.words.specs.Lists.{In, here, there}
use Rattle.words.specs.Laws.Lists.{all_i}
use Rattle.words.specs.declared.Literal.{Literal}
use Rattle.theory.specs.Record.{Assignment, assigned}
use Rattle.theory.specs.Tests.{is_open, all_assigned}
use Rattle.theory.specs.Met.{First}
use Rattle.record.specs.Found.{literal, on_found}
use Rattle.choice.specs.First.{first_of, first_unassigned}
use Rattle.choice.specs.Preferred.{first_open}

-- ---- the first that a test picks
pub record Picks (f : ℤ → Option Literal) (xs : List ℤ) (l : Literal) : Type 0 where
  pub before : List ℤ
  pub word : ℤ
  pub after : List ℤ
  pub whole : xs ≡ before ++ word ∷ after
  pub none : (x : ℤ) → In x before → f x ≡ None
  pub is : f word ≡ Some l

module _ (f : ℤ → Option Literal) where
  pub first_none : (xs : List ℤ) → first_of f xs ≡ None → (x : ℤ) → In x xs → f x ≡ None
  unfolding first_of
  first_none [] e x i = elim i [ ]
  first_none (y ∷ xs) e x i = go (f y) refl e i (λ e. first_none xs e x)
    where
      go : (o : Option Literal) → f y ≡ o → on_found o Some (first_of f xs) ≡ None → In x (y ∷ xs) → (first_of f xs ≡ None → In x xs → f x ≡ None) → f x ≡ None
      go (Some l) p e i ih = let z : ◌≡◌ {A = ℕ} 0 1 = cc in absurd (omega arith)
      go None p e (here q) ih = rw q p
      go None p e (there i) ih = ih e i

  pub first_found : (xs : List ℤ) (l : Literal) → first_of f xs ≡ Some l → Picks f xs l
  unfolding first_of
  first_found [] l e = let z : ◌≡◌ {A = ℕ} 0 1 = cc in absurd (omega arith)
  first_found (x ∷ xs) l e = go (f x) refl (first_found xs l) e
    where
      go : (o : Option Literal) → f x ≡ o → (first_of f xs ≡ Some l → Picks f xs l) → on_found o Some (first_of f xs) ≡ Some l → Picks f (x ∷ xs) l
      go (Some k) p ih e = record { before = []; word = x; after = xs; whole = refl; none = λ y i. elim i [ ]; is = p ∙ e }
      go None p ih e =
          let w = ih e in
          record { before = x ∷ w.before; word = w.word; after = w.after; whole = ap (λ (t : List ℤ). x ∷ t) w.whole; none = none w; is = w.is }
        where
          none : (w : Picks f xs l) (y : ℤ) → In y (x ∷ w.before) → f y ≡ None
          none w y (here q) = rw q p
          none w y (there i) = w.none y i

  pub none_picked : (xs : List ℤ) → ((x : ℤ) → In x xs → f x ≡ None) → first_of f xs ≡ None
  unfolding first_of
  none_picked [] h = refl
  none_picked (x ∷ xs) h = rw (h x (here refl)) (none_picked xs (λ y i. h y (there i)))

  -- tests that agree on a list's words pick the same
  pub first_same : (g : ℤ → Option Literal) (xs : List ℤ) → ((x : ℤ) → In x xs → f x ≡ g x) → first_of f xs ≡ first_of g xs
  unfolding first_of
  first_same g [] h = refl
  first_same g (x ∷ xs) h = rw (h x (here refl), first_same g xs (λ y i. h y (there i)))

-- ---- the first unassigned variable
module _ (ρ : Assignment) where
  -- what is not picked is assigned, and what is, is not
  passed : (q : ℤ) → cond (assigned ρ q) None (Some (literal (pos (nat_abs q)))) ≡ None → assigned ρ q ≡ true
  passed q e = go (assigned ρ q) e
    where
      go : (b : Bool) → cond b None (Some (literal (pos (nat_abs q)))) ≡ None → b ≡ true
      go true e = refl
      go false e = let z : ◌≡◌ {A = ℕ} 0 1 = cc in absurd (omega arith)

  picked : (q : ℤ) (l : Literal) → cond (assigned ρ q) None (Some (literal (pos (nat_abs q)))) ≡ Some l → (assigned ρ q ≡ false) × (nat_abs l.0 ≡ nat_abs q)
  picked q l e = go (assigned ρ q) e
    where
      go : (b : Bool) → cond b None (Some (literal (pos (nat_abs q)))) ≡ Some l → (b ≡ false) × (nat_abs l.0 ≡ nat_abs q)
      go true e = let z : ◌≡◌ {A = ℕ} 0 1 = cc in absurd (omega arith)
      go false e = let w : literal (pos (nat_abs q)) ≡ l = cc in (refl, ap (λ (x : Literal). nat_abs x.0) (sym w))

  pub unassigned_none : (p : List ℤ) → first_unassigned ρ p ≡ None → all_assigned p ρ ≡ true
  unfolding first_unassigned all_assigned
  unassigned_none p e = all_i (assigned ρ) p (λ q i. passed q (first_none _ p e q i))

  -- it is the first word that is unassigned, with either sign
  pub unassigned_found : (p : List ℤ) (l : Literal) → first_unassigned ρ p ≡ Some l → (w : First p ρ) × (nat_abs l.0 ≡ nat_abs w.word)
  unfolding first_unassigned all_assigned
  unassigned_found p l e =
      let w = first_found _ p l e in
      let (u, v) = picked w.word l w.is in
      (record { before = w.before; word = w.word; after = w.after; whole = w.whole; set = all_i (assigned ρ) w.before (λ q i. passed q (w.none q i)); unset = u }, v)

-- ---- a preferred literal: 0 or open
pub first_open_lem : (p : List ℤ) (ρ : Assignment) (ls : List ℤ) → (nat_abs (first_open p ρ ls) ≡ 0) ⊎ (is_open p ρ (first_open p ρ ls) ≡ true)
unfolding first_open
first_open_lem p ρ ls = go (first_of (λ l. cond (is_open p ρ l) (Some (literal l)) None) ls) refl
  where
    found : (q : ℤ) (l : Literal) (b : Bool) → is_open p ρ q ≡ b → cond b (Some (literal q)) None ≡ Some l → is_open p ρ l.0 ≡ true
    found q l true h e = let w : literal q ≡ l = cc in let z : q ≡ l.0 = ap (λ (y : Literal). y.0) w in rw z at h
    found q l false h e = let z : ◌≡◌ {A = ℕ} 0 1 = cc in absurd (omega arith)

    go : (o : Option Literal) → first_of (λ l. cond (is_open p ρ l) (Some (literal l)) None) ls ≡ o → (nat_abs (on_found o (λ l. l.0) (pos 0)) ≡ 0) ⊎ (is_open p ρ (on_found o (λ l. l.0) (pos 0)) ≡ true)
    go (Some l) e = let w = first_found _ ls l e in inr (found w.word l (is_open p ρ w.word) refl w.is)
    go None e = inl refl
