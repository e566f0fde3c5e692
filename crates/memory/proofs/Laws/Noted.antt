-- Which places of the reasons a rule writes: those of the record that it writes, and no others. By the cases of the rule.
use Rattle.std.specs.Prelude.{ℕ, ◌+◌, ◌≤◌, ◌<◌, ◌≡◌, ◌⊎◌, List, ℤ, length, get_or}
use Rattle.std.proofs.Math.Path.{refl}
use Rattle.std.proofs.Common.{inl, inr, arith, length-set}
use Rattle.std.proofs.Math.Seq.{get_or-set_other}
use Rattle.record.specs.declared.rule.Rule.{Rule}
use Rattle.record.specs.declared.rule.Rule.TheVariants.{BacktrackExists, Fail, Unit, Monotone, Decide, BacktrackForall, Succeed}
use Rattle.record.specs.Search.{Search}
use Rattle.applied.specs.Apply.{apply}
use Rattle.record.proofs.Laws.Wiped.{wiped_length, wiped_inside, wiped_outside}
use Rattle.applied.specs.Laws.Untouched.{Elsewhere}
use Rattle.memory.specs.Reasons.{noted}

pub noted_length : (rule : Rule) (n : ℕ) (ws : List ℕ) → length (noted rule n ws) ≡ length ws
noted_length (BacktrackExists i c) n ws = wiped_length 0 ws i n
noted_length (Fail c) n ws = refl
noted_length (Unit l c) n ws = length-set ws n (c + 1)
noted_length (Monotone l) n ws = length-set ws n 0
noted_length (Decide l) n ws = length-set ws n 0
noted_length (BacktrackForall i) n ws = wiped_length 0 ws i n
noted_length Succeed n ws = refl

-- before a cut's place, or past the old length
before_cut : (j n i : ℕ) → Elsewhere j n (i + 1) → (j < i) ⊎ (n ≤ j)
before_cut j n i (inl h) = inl (omega arith)
before_cut j n i (inr h) = inr h.0

not_new : (j n : ℕ) → Elsewhere j n (n + 1) → j ≡ n → ⊥
not_new j n (inl h) e = omega arith
not_new j n (inr h) e = omega (arith, h.1)

module _ (p : List ℤ) (l : ℤ) (t : Search) (ws : List ℕ) (j : ℕ) where
  pub noted_untouched : (rule : Rule) → Elsewhere j t.count (apply p rule l t).count → get_or (noted rule t.count ws) j 0 ≡ get_or ws j 0
  unfolding apply
  noted_untouched (BacktrackExists i c) h = wiped_outside 0 ws i t.count j 0 (before_cut j t.count i h)
  noted_untouched (Fail c) h = refl
  noted_untouched (Unit x c) h = get_or-set_other ws t.count j (c + 1) 0 (not_new j t.count h)
  noted_untouched (Monotone x) h = get_or-set_other ws t.count j 0 0 (not_new j t.count h)
  noted_untouched (Decide x) h = get_or-set_other ws t.count j 0 0 (not_new j t.count h)
  noted_untouched (BacktrackForall i) h = wiped_outside 0 ws i t.count j 0 (before_cut j t.count i h)
  noted_untouched Succeed h = refl

  pub noted_zeros : (rule : Rule) → (apply p rule l t).count ≤ j → j < t.count → get_or (noted rule t.count ws) j 0 ≡ 0
  unfolding apply
  noted_zeros (BacktrackExists i c) h k = wiped_inside 0 ws i t.count j (omega arith) k
  noted_zeros (Fail c) h k = absurd (omega arith)
  noted_zeros (Unit x c) h k = absurd (omega arith)
  noted_zeros (Monotone x) h k = absurd (omega arith)
  noted_zeros (Decide x) h k = absurd (omega arith)
  noted_zeros (BacktrackForall i) h k = wiped_inside 0 ws i t.count j (omega arith) k
  noted_zeros Succeed h k = absurd (omega arith)
