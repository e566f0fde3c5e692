-- Which places of the two buffers a rule writes: an entry more goes to the end of the record, and a cut to its own place, which is the new end,
-- and to those up to the old length.
use Rattle.std.specs.Prelude.{ℕ, ◌+◌, ◌≤◌, ◌<◌, ◌≡◌, refl, ◌⊎◌, List, ℤ, pos, length}
use Rattle.std.proofs.Common.{◌∙◌, inl, inr, arith, length-set, get_or-set_other}
use Rattle.theory.specs.Record.{Entry, entry}
use Rattle.record.specs.Trail.{Trail, no_entry, entry_at, put, wiped_trail}
use Rattle.record.specs.Search.{Search}
use Rattle.applied.specs.Apply.{move_of, moved, apply}
use Rattle.record.proofs.Laws.Wiped.{wiped_length, wiped_other, wiped_blank}
use Rattle.record.specs.declared.rule.State.TheVariants.{Open}
use Rattle.record.specs.declared.rule.Rule.{Rule}
use Rattle.applied.specs.declared.moves.Move.{Move}
use Rattle.applied.specs.declared.moves.Move.TheVariants.{Append, Flip, End}

-- ---- one place of a trail
put_other : (t : Trail) (i j : ℕ) (e : Entry) → (j ≡ i → ⊥) → entry_at (put t i e) j ≡ entry_at t j
put_other t i j e h = rw (get_or-set_other t.lits i j e.literal (pos 0) h, get_or-set_other t.kinds i j e.kind 0 h)

-- place j is neither the last entry of a record of m entries nor, where there were n, one of those cut off
abbrev pub Elsewhere : ℕ → ℕ → ℕ → Type 0
Elsewhere j n m = (j + 1 < m) ⊎ ((n ≤ j) × (m ≤ j))

not_last : (j n i : ℕ) → Elsewhere j n (i + 1) → j ≡ i → ⊥
not_last j n i (inl h) e = omega arith
not_last j n i (inr h) e = omega (arith, h.1)

not_cut : (j n i : ℕ) → Elsewhere j n (i + 1) → (j < i + 1) ⊎ (n ≤ j)
not_cut j n i (inl h) = inl (omega arith)
not_cut j n i (inr h) = inr h.0

-- ---- any move
module _ (t : Search) (j : ℕ) where
  -- but for the last entry and the places that are set to 0 nothing is written [writes.nothing-else]
  moved_untouched : (m : Move) → Elsewhere j t.count (moved m t).count → entry_at (moved m t).trail j ≡ entry_at t.trail j
  moved_untouched (Append k x) h = put_other t.trail t.count j (entry k x.0) (not_last j t.count t.count h)
  moved_untouched (Flip i) h = put_other (wiped_trail t.trail (i + 1) t.count) i j _ (not_last j t.count i h) ∙ wiped_other t.trail (i + 1) t.count j (not_cut j t.count i h)
  moved_untouched (End s) h = refl

  -- from the new to the old length both buffers are 0 [cut.wipes]
  moved_zeros : (m : Move) → (moved m t).count ≤ j → j < t.count → entry_at (moved m t).trail j ≡ no_entry
  moved_zeros (Append k x) h l = absurd (omega arith)
  moved_zeros (Flip i) h l = put_other (wiped_trail t.trail (i + 1) t.count) i j _ (λ e. omega arith) ∙ wiped_blank t.trail (i + 1) t.count j h l
  moved_zeros (End s) h l = absurd (omega arith)

-- the buffers keep their lengths
moved_lengths : (m : Move) (t : Search) → (length (moved m t).trail.lits ≡ length t.trail.lits) × (length (moved m t).trail.kinds ≡ length t.trail.kinds)
moved_lengths (Append k x) t = (simp length-set, simp length-set)
moved_lengths (Flip i) t = (simp (length-set, wiped_length), simp (length-set, wiped_length))
moved_lengths (End s) t = (refl, refl)

-- a rule that ends the search leaves the record [ended.leaves]
moved_ended : (m : Move) (t : Search) → ((moved m t).state ≡ Open → ⊥) → ((moved m t).trail ≡ t.trail) × ((moved m t).count ≡ t.count)
moved_ended (Append k x) t h = absurd (h refl)
moved_ended (Flip i) t h = absurd (h refl)
moved_ended (End s) t h = (refl, refl)

-- ---- any rule
module _ (p : List ℤ) (rule : Rule) (l : ℤ) (t : Search) where
  pub apply_untouched : (j : ℕ) → Elsewhere j t.count (apply p rule l t).count → entry_at (apply p rule l t).trail j ≡ entry_at t.trail j
  unfolding apply
  apply_untouched j h = moved_untouched t j (move_of p rule l) h

  pub apply_zeros : (j : ℕ) → (apply p rule l t).count ≤ j → j < t.count → entry_at (apply p rule l t).trail j ≡ no_entry
  unfolding apply
  apply_zeros j h k = moved_zeros t j (move_of p rule l) h k

  pub apply_lengths : (length (apply p rule l t).trail.lits ≡ length t.trail.lits) × (length (apply p rule l t).trail.kinds ≡ length t.trail.kinds)
  unfolding apply
  apply_lengths = moved_lengths (move_of p rule l) t

  pub apply_ended : ((apply p rule l t).state ≡ Open → ⊥) → ((apply p rule l t).trail ≡ t.trail) × ((apply p rule l t).count ≡ t.count)
  unfolding apply
  apply_ended h = moved_ended (move_of p rule l) t h
