-- A prefix with as many words as variables, each naming one, none twice, names each of them: by pigeons and holes.
use Rattle.std.specs.Prelude.{◌≡◌, refl, true, false, not, ◌⊎◌, List, [], ◌∷◌, ℕ, suc, ◌≤◌, ◌<◌, ℤ, pos, nat_abs, length}
use Rattle.std.proofs.Common.{sym, ◌∙◌, ap, inl, inr, arith}
use Rattle.words.specs.Laws.Bools.{clash, or_fl, or_fr, look, to_false}
use Rattle.words.specs.Lists.{any}
use Rattle.words.specs.Laws.Counts.{count, count_none, count_all, count_more}
use Rattle.formula.specs.Formula.{existential, universal}
use Rattle.formula.specs.Block.{no_variable, names, twice}
use Rattle.formula.specs.Inner.Named.{Named}
use Rattle.formula.specs.Laws.Named.{named, in_named}
use Rattle.formula.specs.Laws.Prefix.{stands, stands_e, stands_bound, one_quantifier}

-- as many numbers are named as there are words
pub words_count : (n : ℕ) (p : List ℤ) → twice p ≡ false → any (no_variable n) p ≡ false → count (λ v. any (names v) p) n ≡ length p
unfolding twice any
words_count n [] h k = count_none (λ v. any (names v) []) (λ v. refl) n
words_count n (w ∷ ws) h k =
    let one = named n w (or_fl (no_variable n w) (any (no_variable n) ws) k) in
    let fewer = or_fl (any (names (nat_abs w)) ws) (twice ws) h in
    count_more (λ v. any (names v) ws) (λ v. any (names v) (w ∷ ws)) (nat_abs w) (λ v. refl) fewer one.some n one.most
    ∙ ap suc (words_count n ws (or_fr (any (names (nat_abs w)) ws) (twice ws) h) (or_fr (no_variable n w) (any (no_variable n) ws) k))

-- each of its words names one of the n variables, so a variable that stands in it is one of them
module _ (n : ℕ) (p : List ℤ) (known : any (no_variable n) p ≡ false) where
  pub stands_named : (l : ℤ) → stands p l ≡ true → Named n l
  stands_named l h =
      let r = stands_e p l h in
      let w = in_named n p known r.1 in
      record { some = omega (arith, w.some, r.2); most = omega (arith, w.most, r.2) }

  pub no_other : (v : ℕ) → (0 < v → v ≤ n → ⊥) → any (names v) p ≡ false
  unfolding stands
  no_other v k = to_false (any (names v) p) (λ e. let w = stands_named (pos v) e in k w.some w.most)

  -- n words for n variables
  module _ (once : twice p ≡ false) (long : length p ≡ n) where
    -- each variable stands in the prefix
    pub all_bound : (v : ℕ) → 0 < v → v ≤ n → any (names v) p ≡ true
    all_bound = count_all (λ v. any (names v) p) n (words_count n p once known ∙ long)

    pub all_stand : (l : ℤ) → Named n l → stands p l ≡ true
    unfolding stands
    all_stand l h = all_bound (nat_abs l) h.some h.most

    -- and it is existential or universal
    pub quantified : (l : ℤ) → Named n l → (existential p l ≡ true) ⊎ (universal p l ≡ true)
    quantified l h = stands_bound p l (all_stand l h)

    pub quantifier : (l : ℤ) → Named n l → universal p l ≡ not (existential p l)
    quantifier l h = by (look (existential p l)) (quantified l h)
      where
        by : (existential p l ≡ true) ⊎ (existential p l ≡ false) → (existential p l ≡ true) ⊎ (universal p l ≡ true) → universal p l ≡ not (existential p l)
        by (inl e) q = one_quantifier p once l h.some e ∙ sym (ap not e)
        by (inr e) (inl q) = clash q e
        by (inr e) (inr q) = q ∙ sym (ap not e)
