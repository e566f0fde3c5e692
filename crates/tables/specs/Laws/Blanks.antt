-- Tables of statuses: a new one is blank; two blank ones are the same, and so are two that say the statuses of one prefix. By index.
use Rattle.std.specs.Prelude.{◌≡◌, refl, List, ℕ, ◌+◌, ◌-◌, ◌≤◌, ◌<◌, ℤ, pos, neg_ℤ, nat_abs, length, get_or, replicate}
use Rattle.std.proofs.Common.{sym, subst, ◌∙◌, arith, ext_get_or}
use Rattle.std.proofs.Math.Decide.{ℕ_discrete, dec_le}
use Rattle.std.proofs.lemmas.List.{length-replicate}
use Rattle.words.specs.Laws.Lists.{blank}
use Rattle.words.specs.Laws.Words.{nat_abs_neg}
use Rattle.formula.specs.Limits.{max_variables}
use Rattle.formula.specs.Laws.Limits.{variables_are}
use Rattle.formula.specs.Laws.Permuted.{all_bound}
use Rattle.formula.specs.Inner.Places.{literal_places}
use Rattle.formula.specs.Laws.Places.{place_plus, place_minus}
use Rattle.record.specs.Inner.Ready.{Bound}
use Rattle.tables.specs.Inner.ByLiteral.{status_in, Blank, Statuses}

pub new_blank : Blank (replicate literal_places 0)
new_blank = record { long = length-replicate {A = ℕ} literal_places 0; none = blank {A = ℕ} 0 literal_places }

pub same_blank : {t t' : List ℕ} → Blank t → Blank t' → t ≡ t'
same_blank {t} {t'} b b' = ext_get_or 0 t t' (b.long ∙ sym b'.long) (λ i h. b.none i ∙ sym (b'.none i))

-- ---- filled
module _ (p : List ℤ) (b : Bound p) (values : List ℕ) {t t' : List ℕ} (s : Statuses p values t) (s' : Statuses p values t') where
  -- a literal of the prefix's variables
  same_named : (x : ℤ) → 0 < nat_abs x → nat_abs x ≤ length p → status_in t x ≡ status_in t' x
  same_named x h k =
      let n = all_bound (length p) p b.binds.named b.binds.once refl (nat_abs x) h k in
      s.said x k n ∙ sym (s'.said x k n)

  -- a place from the middle on, and one before it
  same_above : (v : ℕ) → get_or t (max_variables + v) 0 ≡ get_or t' (max_variables + v) 0
  same_above v = by (ℕ_discrete v 0) (dec_le v (length p))
    where
      by : Dec (v ≡ 0) → Dec (v ≤ length p) → get_or t (max_variables + v) 0 ≡ get_or t' (max_variables + v) 0
      by (yes e) k = let z : max_variables + v ≡ max_variables = omega arith in rw z (s.beyond.middle ∙ sym s'.beyond.middle)
      by (no f) (yes k) = rw (← variables_are, ← place_plus v) (same_named (pos v) (omega arith) k)
      by (no f) (no k) = s.beyond.high (max_variables + v) (omega arith) ∙ sym (s'.beyond.high (max_variables + v) (omega arith))

  same_below : (v : ℕ) → v ≤ max_variables → get_or t (max_variables - v) 0 ≡ get_or t' (max_variables - v) 0
  same_below v h = by (ℕ_discrete v 0) (dec_le v (length p))
    where
      by : Dec (v ≡ 0) → Dec (v ≤ length p) → get_or t (max_variables - v) 0 ≡ get_or t' (max_variables - v) 0
      by (yes e) k = let z : max_variables - v ≡ max_variables = omega arith in rw z (s.beyond.middle ∙ sym s'.beyond.middle)
      by (no f) (yes k) =
          let some : 0 < nat_abs (neg_ℤ (pos v)) = rw (nat_abs_neg (pos v)) (omega arith) in
          let most : nat_abs (neg_ℤ (pos v)) ≤ length p = rw (nat_abs_neg (pos v)) k in
          rw (← variables_are, ← place_minus v) (same_named (neg_ℤ (pos v)) some most)
      by (no f) (no k) = s.beyond.low (max_variables - v) (omega arith) ∙ sym (s'.beyond.low (max_variables - v) (omega arith))

  pub same_statuses : t ≡ t'
  same_statuses = ext_get_or 0 t t' (s.beyond.long ∙ sym s'.beyond.long) (λ at h. by at (dec_le max_variables at))
    where
      by : (at : ℕ) → Dec (max_variables ≤ at) → get_or t at 0 ≡ get_or t' at 0
      by at (yes h) = let e : max_variables + (at - max_variables) ≡ at = omega arith in subst (λ i. get_or t i 0 ≡ get_or t' i 0) e (same_above (at - max_variables))
      by at (no h) = let e : max_variables - (max_variables - at) ≡ at = omega arith in subst (λ i. get_or t i 0 ≡ get_or t' i 0) e (same_below (max_variables - at) (omega arith))
