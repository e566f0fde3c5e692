-- A record that passes row 12 is one that the theory calls good, and the other way round: every word of a size from 1 to V names a variable
-- of the prefix, and has one quantifier.
use Rattle.std.specs.Prelude.{ℕ, zero, suc, ◌≤◌, ◌≡◌, refl, true, false, ltb, pos, length}
use Rattle.std.proofs.Common.{inl, inr, arith, ltb-false}
use mathlib.Core.List.{List, [], ◌∷◌}
use Rattle.std.proofs.Math.IntN.{ℤ}
use Rattle.words.specs.Laws.Bools.{clash, or_fl, or_l, or_r, to_false}
use Rattle.words.specs.Lists.{In, here, there, any}
use Rattle.words.specs.Laws.Lists.{all_e, all_i, any_f, any_none}
use Rattle.words.specs.Words.{mem}
use Rattle.words.specs.Laws.Words.{mem_e}
use Rattle.formula.specs.Formula.{Formula, existential, universal}
use Rattle.formula.specs.Block.{no_variable}
use Rattle.formula.specs.Laws.Named.{named, named_passes}
use Rattle.formula.specs.Laws.Prefix.{stands, stands_bound, universal_existential, existential_universal}
use Rattle.formula.specs.Laws.Permuted.{stands_named, all_stand}
use Rattle.formula.specs.Proper.{Proper}
use Rattle.theory.specs.Record.{Entry, entry, Record, literals}
use Rattle.theory.specs.Start.{suits, all_suit, Good}
use Rattle.theory.proofs.Laws.Moves.{suits_stands}
use Rattle.record.specs.Trail.{Trail, record_of}
use Rattle.record.specs.Check.{bad_kind, bad_record}
use Rattle.record.specs.Inner.Ready.{Binds, Kept}
use Rattle.record.proofs.Laws.Records.{Passing, in_literals, good, good_passes}

-- the words of a size from 1 to V are those that name a variable of the prefix
bound_stands : (p : List ℤ) → Binds p → (l : ℤ) → no_variable (length p) l ≡ false → stands p l ≡ true
bound_stands p b l h = all_stand (length p) p b.named b.once refl l (named (length p) l h)

stands_within : (p : List ℤ) → Binds p → (l : ℤ) → stands p l ≡ true → no_variable (length p) l ≡ false
stands_within p b l h = named_passes (length p) l (stands_named (length p) p b.named l h)

-- so the prefix is proper, whatever the clauses: with none, say
abbrev pub bare : List ℤ → Formula
bare p = record { prefix = p; clauses = [] }

pub bare_proper : (p : List ℤ) → Binds p → Proper (bare p)
unfolding any
bare_proper p b = record { named = to_false (mem (pos 0) p) (λ e. clash refl (any_none (no_variable (length p)) p b.named (mem_e (pos 0) p e))); once = b.once; plain = refl }

-- ---- one entry: the kind is as row 12 asks, or suits as the theory asks
kind_suits : (p : List ℤ) (k : ℕ) (l : ℤ) → stands p l ≡ true → bad_kind p (entry k l) ≡ false → suits p k l ≡ true
unfolding suits
kind_suits p zero l s h = elim (stands_bound p l s) [ inl e ↦ or_l (universal p l) e | inr e ↦ or_r (existential p l) e ]
kind_suits p (suc zero) l s h = elim (stands_bound p l s) [ inl e ↦ e | inr e ↦ clash e (or_fl (universal p l) false h) ]
kind_suits p (suc (suc zero)) l s h = elim (stands_bound p l s) [ inl e ↦ clash e h | inr e ↦ e ]
kind_suits p (suc (suc (suc k))) l s h = let z = ltb-false 2 (suc (suc (suc k))) (or_fl (ltb 2 (suc (suc (suc k)))) _ (or_fl _ _ h)) in absurd (omega arith)

suits_kind : (p : List ℤ) → Binds p → (k : ℕ) (l : ℤ) → suits p k l ≡ true → bad_kind p (entry k l) ≡ false
unfolding suits
suits_kind p b zero l h = refl
suits_kind p b (suc zero) l h = rw (existential_universal {F = bare p} (bare_proper p b) l h)
suits_kind p b (suc (suc zero)) l h = universal_existential {F = bare p} (bare_proper p b) l h
suits_kind p b (suc (suc (suc k))) l h = clash h refl

-- ---- the whole record
literals_in : (r : Record) {x : ℤ} → In x (literals r) → (e : Entry) × In e r × (x ≡ e.literal)
unfolding literals
literals_in (e ∷ r) (here z) = (e, here refl, z)
literals_in (e ∷ r) (there i) = let t = literals_in r i in (t.0, there t.1, t.2)
literals_in [] x3 = elim x3 [ ]

module _ (F : Formula) (t : Trail) (n : ℕ) where
  -- what a guarded call has shown of the record is what the theory asks of it
  pub passed_good : Kept F.prefix t n → Good F (record_of t n)
  unfolding all_suit
  passed_good k = record { distinct = g.once; suited = all_i (λ e. suits p e.kind e.literal) r (λ e i. fits e i) }
    where
      p : List ℤ
      p = F.prefix

      r : Record
      r = record_of t n

      g : Passing p t n
      g = good p t n k.good

      fits : (e : Entry) → In e r → suits p e.kind e.literal ≡ true
      fits e i = kind_suits p e.kind e.literal (bound_stands p k.prefix e.literal (any_none (no_variable (length p)) (literals r) g.named (in_literals i))) (any_none (bad_kind p) r g.kinds i)

  pub good_kept : Binds F.prefix → n ≤ length F.prefix → Good F (record_of t n) → bad_record F.prefix t n ≡ false
  unfolding all_suit
  good_kept b h g = good_passes p t n (record {
    few = h;
    named = any_f (no_variable (length p)) (literals r) (λ x i. size x (literals_in r i));
    once = g.distinct;
    kinds = any_f (bad_kind p) r (λ e i. suits_kind p b e.kind e.literal (suited e i));
  })
    where
      p : List ℤ
      p = F.prefix

      r : Record
      r = record_of t n

      suited : (e : Entry) → In e r → suits p e.kind e.literal ≡ true
      suited e i = all_e (λ e. suits p e.kind e.literal) r g.suited i

      size : (x : ℤ) → (e : Entry) × In e r × (x ≡ e.literal) → no_variable (length p) x ≡ false
      size x (e, i, q) = rw q (stands_within p b e.literal (suits_stands p e.kind e.literal (suited e i)))
