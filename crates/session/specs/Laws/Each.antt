-- What holds of every entry with its reason goes on to hold: a rule leaves all but the last entry, and that one has a unit's reason or none. Said
-- once, for any property.
use Rattle.std.specs.Prelude.{ℕ, zero, suc, ◌+◌, ◌≤◌, ◌<◌, ◌≡◌, refl, List, ℤ, pos, length, get_or}
use Rattle.std.proofs.Common.{inl}
use Rattle.std.proofs.Math.Decide.{ℕ_discrete}
use native.Mathlib.Omega.{arith}
use Rattle.std.proofs.Math.Seq.{get_or-set_same}
use Rattle.words.specs.declared.Literal.{Literal}
use Rattle.theory.specs.Record.{Entry, entry, Record}
use Rattle.record.specs.declared.rule.Rule.{Rule}
use Rattle.record.specs.declared.rule.Rule.TheVariants.{BacktrackExists, Fail, Unit, Monotone, Decide, BacktrackForall, Succeed}
use Rattle.record.specs.Trail.{Trail, record_of, entry_at}
use Rattle.record.specs.Search.{Search, record_in}
use Rattle.applied.specs.Apply.{apply}
use Rattle.record.specs.Inner.Ready.{Room, KeptIn}
use Rattle.applied.specs.Inner.Fits.{Fitting}
use Rattle.record.proofs.Laws.Wiped.{wiped_inside}
use Rattle.record.proofs.Laws.Records.{kept_room, kept_more, room_less, record_more}
use Rattle.applied.specs.Laws.Untouched.{apply_untouched, apply_lengths}
use Rattle.memory.specs.Reasons.{noted}
use Rattle.memory.proofs.Laws.Noted.{noted_untouched}

-- a property of an entry, of those before it and of its reason, at every entry
abbrev pub Each : (Record → Entry → ℕ → Type 0) → Search → List ℕ → Type 0
Each Q t ws = (j : ℕ) → j < t.count → Q (record_of t.trail j) (entry_at t.trail j) (get_or ws j 0)

-- records with the same entries are the same
record_same : (t u : Trail) (n : ℕ) → Room n t → Room n u → ((i : ℕ) → i < n → entry_at u i ≡ entry_at t i) → record_of u n ≡ record_of t n
unfolding record_of
record_same t u zero r s h = refl
record_same t u (suc n) r s h =
    let ih = record_same t u n (room_less (omega arith) r) (room_less (omega arith) s) (λ i k. h i (omega arith)) in
    rw (record_more t n r, record_more u n s, ih, h n (omega arith))

-- a property of entries that says nothing of the reason 0, and that a unit's entry has with its own
module _
    (Q : Record → Entry → ℕ → Type 0) (none : (r : Record) (e : Entry) → Q r e 0)
    (p : List ℤ) (l : ℤ) (t : Search) (k : KeptIn p t) (ws : List ℕ) (long : length p ≤ length ws) (each : Each Q t ws)
  where
    blank : (r : Record) (e : Entry) {w : ℕ} → w ≡ 0 → Q r e w
    blank r e z = rw z (none r e)

    module _ (rule : Rule) where
      abbrev after : Search
      after = apply p rule l t

      room_after : (n : ℕ) → n ≤ t.count → Room n after.trail
      room_after n h =
          let (a, b) = apply_lengths p rule l t in
          let r = kept_room k in
          record { lits = omega (arith, a, r.lits); kinds = omega (arith, b, r.kinds) }

      -- the entries before one that is not cut off
      before_same : (j : ℕ) → j < after.count → j ≤ t.count → record_of after.trail j ≡ record_of t.trail j
      before_same j h i =
          record_same t.trail after.trail j (room_less i (kept_room k)) (room_after j i)
          (λ i q. apply_untouched p rule l t i (inl (omega arith)))

    count_after : (rule : Rule) → Fitting p t.count rule → (apply p rule l t).count ≤ t.count + 1
    unfolding apply
    count_after (BacktrackExists i c) f = omega arith
    count_after (Fail c) f = omega arith
    count_after (Unit x c) f = omega arith
    count_after (Monotone x) f = omega arith
    count_after (Decide x) f = omega arith
    count_after (BacktrackForall i) f = omega arith
    count_after Succeed f = omega arith

    last_holds : (rule : Rule) (fits : Fitting p t.count rule) (unit : (x : Literal) (c : ℕ) → rule ≡ Unit x c → Q (record_in t) (entry 0 x.0) (c + 1))
        → (j : ℕ) → j + 1 ≡ (apply p rule l t).count → let u = apply p rule l t in Q (record_of u.trail j) (entry_at u.trail j) (get_or (noted rule t.count ws) j 0)
    unfolding apply
    last_holds (BacktrackExists i c) fits unit j e = blank _ _ (wiped_inside 0 ws i t.count j (omega arith) (omega arith))
    last_holds (Fail c) fits unit j e = each j (omega arith)
    last_holds (Unit x c) fits unit j e =
        let z : j ≡ t.count = omega arith in
        let room = kept_more k fits in
        let n = t.count in
        let same = before_same (Unit x c) j (omega arith) (omega arith) in
        rw (same, z, get_or-set_same ws n (c + 1) 0 (omega arith), get_or-set_same t.trail.lits n x.0 (pos 0) (omega (arith, room.lits)), get_or-set_same t.trail.kinds n 0 0 (omega (arith, room.kinds)))
        (unit x c refl)
    last_holds (Monotone x) fits unit j e = let z : j ≡ t.count = omega arith in blank _ _ (rw z (get_or-set_same ws t.count 0 0 (omega arith)))
    last_holds (Decide x) fits unit j e = let z : j ≡ t.count = omega arith in blank _ _ (rw z (get_or-set_same ws t.count 0 0 (omega arith)))
    last_holds (BacktrackForall i) fits unit j e = blank _ _ (wiped_inside 0 ws i t.count j (omega arith) (omega arith))
    last_holds Succeed fits unit j e = each j (omega arith)

    pub each_after : (rule : Rule) → Fitting p t.count rule → ((x : Literal) (c : ℕ) → rule ≡ Unit x c → Q (record_in t) (entry 0 x.0) (c + 1)) → Each Q (apply p rule l t) (noted rule t.count ws)
    each_after rule fits unit j h = by (ℕ_discrete (j + 1) (apply p rule l t).count)
      where
        by : Dec (j + 1 ≡ (apply p rule l t).count) → let u = apply p rule l t in Q (record_of u.trail j) (entry_at u.trail j) (get_or (noted rule t.count ws) j 0)
        by (yes e) = last_holds rule fits unit j e
        by (no f) =
            let c = count_after rule fits in
            let g : j + 1 < (apply p rule l t).count = omega arith in
            rw (before_same rule j h (omega arith), apply_untouched p rule l t j (inl g), noted_untouched p l t ws j rule (inl g)) (each j (omega arith))
