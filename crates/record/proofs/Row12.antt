-- Row 12 in the words of the code: the kinds, by the signs in the prefix, and the ways out.
use Rattle.std.proofs.lemmas.Slice.Zip.{length-zip, get_or-zip}
use Rattle.std.specs.List.{zip}
use mathlib.Core.Path.{◌≡◌, refl, ◌∙◌, ap}
use mathlib.Core.Bool.{Bool, true, false, not, ◌&&◌, ◌||◌}
use mathlib.Core.List.{List, [], ◌∷◌, zip_with}
use Prim.Native.Nat.{ℕ, zero, suc, ◌≤◌, ◌<◌}
use native.Mathlib.Omega.{arith}
use lib.Dec.{eqb, ltb}
use lib.IntN.{ℤ, nat_abs}
use lib.ListN.{length, get_or, take}
use borrow.Author.Tests.{lt-ltb, le-ltb}
use Rattle.words.specs.Lists.{any}
use Rattle.words.specs.Laws.Bools.{or_fl, or_fr}
use Rattle.words.specs.Laws.Lists.{in_at}
use Rattle.formula.specs.Formula.{existential, universal}
use Rattle.formula.specs.Block.{no_variable, twice}
use Rattle.formula.specs.Laws.Limits.{variables_are}
use Rattle.formula.specs.Inner.Named.{Named}
use Rattle.formula.specs.Limits.{limits}
use Rattle.formula.specs.Laws.Named.{named, in_named}
use Rattle.formula.specs.Laws.Permuted.{quantifier}
use Rattle.theory.specs.Record.{entry}
use Rattle.record.specs.Trail.{Trail, trail, entries, record_of}
use Rattle.record.specs.Check.{bad_kind, bad_entries, bad_record}
use Rattle.record.specs.Inner.Ready.{Bound, Room}
use Rattle.record.specs.Inner.Tables.{places, Quantifiers}
use Rattle.record.specs.Inner.Buffers.{wrong_kind}
use Rattle.record.proofs.Laws.Filled.{quantifier_in}
use Rattle.record.proofs.Laws.Records.{room_less, record_literals}

-- ---- kinds
-- the table tells a variable's quantifier, since it has one only
kind_test : (p : List ℤ) → Bound p → (l : ℤ) → Named (length p) l → (k q : ℕ) → eqb q 2 ≡ universal p l → wrong_kind k q ≡ bad_kind p (entry k l)
kind_test p b l n k q e = rw (e, quantifier (length p) p b.binds.named b.binds.once refl l n) (go (existential p l))
  where
    go : (e : Bool) → (ltb 2 k || (eqb k 1 && not e) || (eqb k 2 && not (not e))) ≡ (ltb 2 k || (eqb k 1 && not e) || (eqb k 2 && e))
    go true = refl
    go false = refl

-- the words and the kinds side by side are the record's entries, so the test by the table finds what the definition does
module _ (p : List ℤ) (b : Bound p) (table : List ℕ) (said : Quantifiers p table) where
  abbrev pub wrong_in : ℤ × ℕ → Bool
  wrong_in e = wrong_kind e.1 (get_or table (nat_abs e.0) 0)

  pub kinds_any : (n : ℕ) (ls : List ℤ) (ks : List ℕ) → any (no_variable (length p)) (take n ls) ≡ false → any wrong_in (zip (take n ls) ks) ≡ any (bad_kind p) (record_of (trail ls ks) n)
  unfolding any record_of entries zip_with
  kinds_any zero ls ks h = refl
  kinds_any (suc n) [] ks h = refl
  kinds_any (suc n) (l ∷ ls) [] h = refl
  kinds_any (suc n) (l ∷ ls) (k ∷ ks) h =
      let here = kind_test p b l (named (length p) l (or_fl (no_variable (length p) l) (any (no_variable (length p)) (take n ls)) h)) k (get_or table (nat_abs l) 0) (quantifier_in p b table said l) in
      rw (here, kinds_any n ls ks (or_fr (no_variable (length p) l) (any (no_variable (length p)) (take n ls)) h))

-- each word beside a kind has a place in the table
pub pair_placed : (n : ℕ) (ls : List ℤ) (ks : List ℕ) → n ≤ limits.variables → any (no_variable n) ls ≡ false → (e : ℤ × ℕ) (i : ℕ) → i < length (zip ls ks) → e ≡ get_or (zip ls ks) i e → nat_abs e.0 < places
pair_placed n ls ks room named e i h is =
    let l = length-zip ls ks in
    let at = ap (λ (x : ℤ × ℕ). nat_abs x.0) (is ∙ get_or-zip ls ks i e (omega arith) (omega arith)) in
    let name = in_named n ls named (in_at ls i e.0 (omega arith)) in
    omega (arith, variables_are, at, name.most)

-- ---- the ways out
module _ (p : List ℤ) (t : Trail) (n : ℕ) where
  pub row_over : length p < n → true ≡ bad_record p t n
  unfolding bad_record
  row_over h = rw (lt-ltb (length p) n h)

  module _ (few : n ≤ length p) (room : Room (length p) t) where
    row : bad_record p t n ≡ (any (no_variable (length p)) (take n t.lits) || twice (take n t.lits) || any (bad_kind p) (record_of t n))
    unfolding bad_record bad_entries
    row = rw (le-ltb (length p) n few, record_literals t n (room_less few room))

    pub row_unnamed : any (no_variable (length p)) (take n t.lits) ≡ true → true ≡ bad_record p t n
    row_unnamed a = rw (row, a)

    module _ (a : any (no_variable (length p)) (take n t.lits) ≡ false) where
      pub row_twice : twice (take n t.lits) ≡ true → true ≡ bad_record p t n
      row_twice b = rw (row, a, b)

      pub row_kinds : twice (take n t.lits) ≡ false → (c : Bool) → c ≡ any (bad_kind p) (record_of t n) → c ≡ bad_record p t n
      row_kinds b c e = rw (row, a, b) e
