-- Any kinds are those of some record, such as one whose words are all 0: no variable has a value there.
use Rattle.std.specs.Prelude.{◌≡◌, refl, false, List, [], ◌∷◌, ℕ, zero, suc, ◌≤◌, ◌<◌, ℤ, pos, negsuc, nat_abs, length, take, replicate}
use Rattle.std.proofs.Common.{arith, ne_eqb}
use Rattle.std.proofs.lemmas.List.{length-replicate}
use Rattle.words.specs.Laws.Bools.{clash}
use Rattle.words.specs.Words.{eq_z, mem}
use Rattle.theory.specs.Record.{Record, Assignment, true_in}
use Rattle.record.specs.Trail.{Trail, trail, record_of}
use Rattle.record.specs.Inner.Tables.{value_in, Values}
use Rattle.record.specs.Inner.Ready.{Room}
use Rattle.record.proofs.Laws.Records.{record_literals}
use Rattle.record.proofs.Laws.Last.{last_kind_lem}
use Rattle.rules.specs.Inner.Tabled.{Tabled}

none_among : (m n : ℕ) (x : ℤ) → 0 < nat_abs x → mem x (take m (replicate n (pos 0))) ≡ false
unfolding mem eq_z
none_among zero n x h = refl
none_among (suc m) zero x h = refl
none_among (suc m) (suc n) (pos zero) h = absurd (omega arith)
none_among (suc m) (suc n) (pos (suc k)) h = rw (ne_eqb (suc k) 0 (λ e. omega arith)) (none_among m n (pos (suc k)) h)
none_among (suc m) (suc n) (negsuc k) h = none_among m n (negsuc k) h

-- the table of values where no variable has one
none_valued : (ρ : Assignment) → ((x : ℤ) → 0 < nat_abs x → ρ x ≡ false) → Values ρ (value_in ρ 0 ∷ [])
none_valued ρ h zero = refl
none_valued ρ h (suc v) = rw (h (pos (suc v)) (omega arith), h (negsuc v) (omega arith))

module _ (ks : List ℕ) (n : ℕ) (h : n ≤ length ks) where
  abbrev zeros : Trail
  zeros = trail (replicate n (pos 0)) ks

  room : Room n zeros
  room = let e = length-replicate {A = ℤ} n (pos 0) in record { lits = omega arith; kinds = h }

  none_true : (x : ℤ) → 0 < nat_abs x → true_in (record_of zeros n) x ≡ false
  none_true x some = rw (record_literals zeros n room) (none_among n n x some)

  pub kinds_tabled : (R : Record) × (table : List ℕ) × Tabled R table ks n
  kinds_tabled = (
    record_of zeros n,
    value_in (true_in (record_of zeros n)) 0 ∷ [],
    record {
      values = none_valued (true_in (record_of zeros n)) none_true;
      consistent = λ v some e. clash e (none_true (pos v) some);
      lasts = λ k. last_kind_lem zeros k n room;
    },
  )
