-- One law for every table: which number it gives, and which numbers it can give. By induction on the list.
use Rattle.std.specs.Prelude.{◌≡◌, refl, Bool, true, false, cond, List, [], ◌∷◌, ◌++◌, ℕ, zero, suc, eqb}
use Rattle.std.proofs.Common.{◌∙◌, ap, arith}
use Rattle.words.specs.Laws.Bools.{clash}
use Rattle.words.specs.Lists.{In, here, there}
use Rattle.words.specs.Rows.{Row, row, refusal_of, numbers, positive, test, up_to, NoRow, Foremost, Numbered}

nowhere : NoRow []
nowhere n i = elim i [ ]

no_more : {n : ℕ} {rs : List Row} → NoRow rs → NoRow (row n false ∷ rs)
no_more f k (here e) = let z : ◌≡◌ {A = ℕ} 0 1 = cc in omega arith
no_more f k (there i) = f k i

pub none_applies : (rs : List Row) → positive rs ≡ true → refusal_of rs ≡ 0 → NoRow rs
none_applies [] p e = nowhere
none_applies (row zero t ∷ rs) p e = clash p refl
none_applies (row (suc n) true ∷ rs) p e = absurd (omega arith)
none_applies (row (suc n) false ∷ rs) p e = no_more (none_applies rs p e)

pub none_given : (rs : List Row) → NoRow rs → refusal_of rs ≡ 0
none_given [] f = refl
none_given (row n true ∷ rs) f = absurd (f n (here refl))
none_given (row n false ∷ rs) f = none_given rs (λ k i. f k (there i))

some_applies : (rs : List Row) (k : ℕ) → refusal_of rs ≡ suc k → Foremost rs (suc k)
some_applies [] k e = absurd (omega arith)
some_applies (row n true ∷ rs) k e = record { before = []; behind = rs; order = ap (λ (m : ℕ). row m true ∷ rs) e; none = nowhere }
some_applies (row n false ∷ rs) k e =
    let r = some_applies rs k e in
    record { before = row n false ∷ r.before; behind = r.behind; order = ap (λ (ss : List Row). row n false ∷ ss) r.order; none = no_more r.none }

-- rows that do not apply, before others
pub skips : (rs ss : List Row) → NoRow rs → refusal_of (rs ++ ss) ≡ refusal_of ss
skips [] ss f = refl
skips (row n true ∷ rs) ss f = absurd (f n (here refl))
skips (row n false ∷ rs) ss f = skips rs ss (λ k i. f k (there i))

pub numbered : (rs : List Row) → positive rs ≡ true → Numbered rs (refusal_of rs)
numbered rs p = record {
  none = (none_applies rs p, none_given rs);
  some = λ k. (some_applies rs k, λ r. ap refusal_of r.order ∙ skips r.before (row (suc k) true ∷ r.behind) r.none);
}

-- ---- which numbers a table can give
pub given : (rs : List Row) → In (refusal_of rs) (0 ∷ numbers rs)
given [] = here refl
given (row n true ∷ rs) = there (here refl)
given (row n false ∷ rs) = later (given rs)
  where
    later : {m : ℕ} {ns : List ℕ} → In m (0 ∷ ns) → In m (0 ∷ n ∷ ns)
    later (here e) = here e
    later (there i) = there (there i)

-- a row that applies: the number is its own or that of a row before it
pub refused_by : (k : ℕ) (rs : List Row) → positive rs ≡ true → test k rs ≡ true → (n : ℕ) × In (suc n) (up_to k rs) × (refusal_of rs ≡ suc n)
refused_by k [] p e = clash e refl
refused_by k (row zero t ∷ rs) p e = clash p refl
refused_by k (row (suc n) true ∷ rs) p e = (n, here refl, refl)
refused_by k (row (suc n) false ∷ rs) p e = go (eqb k (suc n)) e (refused_by k rs p)
  where
    go : (z : Bool) → cond z false (test k rs) ≡ true → (test k rs ≡ true → (m : ℕ) × In (suc m) (up_to k rs) × (refusal_of rs ≡ suc m))
        → (m : ℕ) × In (suc m) (suc n ∷ cond z [] (up_to k rs)) × (refusal_of rs ≡ suc m)
    go true e ih = clash e refl
    go false e ih = let r = ih e in (r.0, there r.1, r.2)

-- ---- a table in two parts, as a call asks it: the first stops the call, or the second decides
module _ (rs ss : List Row) where
  pub stops : {m : ℕ} → m ≡ refusal_of rs → (m ≡ 0 → ⊥) → m ≡ refusal_of (rs ++ ss)
  stops e f = e ∙ go rs (λ z. f (e ∙ z))
    where
      go : (rs : List Row) → (refusal_of rs ≡ 0 → ⊥) → refusal_of rs ≡ refusal_of (rs ++ ss)
      go [] f = absurd (f refl)
      go (row n true ∷ rs) f = refl
      go (row n false ∷ rs) f = go rs f

  pub goes_on : positive rs ≡ true → refusal_of rs ≡ 0 → refusal_of (rs ++ ss) ≡ refusal_of ss
  goes_on p e = skips rs ss (none_applies rs p e)

  pub first_part : refusal_of (rs ++ ss) ≡ 0 → refusal_of rs ≡ 0
  first_part = go rs
    where
      go : (rs : List Row) → refusal_of (rs ++ ss) ≡ 0 → refusal_of rs ≡ 0
      go [] e = refl
      go (row n true ∷ rs) e = e
      go (row n false ∷ rs) e = go rs e

-- an accepted call has passed every row
pub passed : (rs : List Row) → positive rs ≡ true → refusal_of rs ≡ 0 → (k : ℕ) → test k rs ≡ false
passed [] p e k = refl
passed (row zero t ∷ rs) p e k = clash p refl
passed (row (suc n) true ∷ rs) p e k = absurd (omega arith)
passed (row (suc n) false ∷ rs) p e k = go (eqb k (suc n)) (passed rs p e k)
  where
    go : (z : Bool) → test k rs ≡ false → cond z false (test k rs) ≡ false
    go true ih = refl
    go false ih = ih
