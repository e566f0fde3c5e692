-- Laws of the record in the buffers: its literals and length, an entry more, a cut, and what row 12 leaves. The record is the first entries of
-- one list, and a store in both buffers is a store in that list.
use Rattle.std.specs.Prelude.{ℕ, zero, suc, ◌+◌, ◌-◌, ◌≤◌, ◌<◌, min, ◌≡◌, refl, ◌||◌, false, ltb, ℤ, pos, length, get_or, take, drop, set, replicate}
use Rattle.std.proofs.Common.{ap, ◌∙◌, not-suc-le-zero, le_of_suc-le-suc, add-one, arith, take-suc, take-suc-set}
use mathlib.Core.List.{List, [], ◌∷◌, ◌++◌, zip_with}
use Rattle.std.proofs.lemmas.List.Edits.{sets}
use Rattle.std.proofs.Math.Seq.{length-take-le, take-take, get_or-take, split_at}
use borrow.Author.Tests.{ltb-false, le-ltb}
use Rattle.words.specs.Laws.Bools.{or_fl, or_fr}
use Rattle.words.specs.Lists.{In, here, there, any}
use Rattle.words.specs.Laws.Lists.{any_none, in_at}
use Rattle.formula.specs.Block.{no_variable, twice}
use Rattle.formula.specs.Inner.Named.{Named}
use Rattle.formula.specs.Laws.Named.{named}
use Rattle.theory.specs.Record.{Entry, entry, Record, literals}
use Rattle.record.specs.Trail.{Trail, trail, entries, record_of, no_entry, entry_at, put, wiped, wiped_trail}
use Rattle.record.specs.Check.{bad_kind, bad_entries, bad_record}
use Rattle.record.specs.Inner.Ready.{Room, Kept}
use Rattle.record.proofs.Laws.Wiped.{wiped_length, wiped_before}

-- ---- both buffers as one list
entries_length : (ls : List ℤ) (ks : List ℕ) → length (entries (trail ls ks)) ≡ min (length ls) (length ks)
unfolding entries zip_with
entries_length [] ks = omega arith
entries_length (l ∷ ls) [] = omega arith
entries_length (l ∷ ls) (k ∷ ks) = let e = entries_length ls ks in omega arith

entries_at : (ls : List ℤ) (ks : List ℕ) (i : ℕ) → i < length ls → i < length ks → get_or (entries (trail ls ks)) i no_entry ≡ entry_at (trail ls ks) i
unfolding entries zip_with
entries_at [] ks i h k = absurd (not-suc-le-zero h)
entries_at (l ∷ ls) [] i h k = absurd (not-suc-le-zero k)
entries_at (l ∷ ls) (x ∷ ks) zero h k = refl
entries_at (l ∷ ls) (x ∷ ks) (suc i) h k = entries_at ls ks i (le_of_suc-le-suc h) (le_of_suc-le-suc k)

entries_put : (ls : List ℤ) (ks : List ℕ) (i : ℕ) (e : Entry) → entries (put (trail ls ks) i e) ≡ set (entries (trail ls ks)) i e
unfolding entries zip_with
entries_put [] ks i e = refl
entries_put (l ∷ ls) [] zero e = refl
entries_put (l ∷ ls) [] (suc i) e = refl
entries_put (l ∷ ls) (k ∷ ks) zero e = refl
entries_put (l ∷ ls) (k ∷ ks) (suc i) e = ap (λ t. entry k l ∷ t) (entries_put ls ks i e)

-- ---- room for the record
pub room_less : {m n : ℕ} {t : Trail} → m ≤ n → Room n t → Room m t
room_less h r = record { lits = omega arith; kinds = omega arith }

module _ (t : Trail) (n : ℕ) (room : Room n t) where
  entries_room : n ≤ length (entries t)
  entries_room = let e = entries_length t.lits t.kinds in omega arith

  pub record_length : length (record_of t n) ≡ n
  unfolding record_of
  record_length = length-take-le n (entries t) entries_room

  pub record_get : (i : ℕ) → i < n → get_or (record_of t n) i no_entry ≡ entry_at t i
  unfolding record_of
  record_get i h = get_or-take n (entries t) i no_entry h ∙ entries_at t.lits t.kinds i (omega arith) (omega arith)

  pub in_record : (i : ℕ) → i < n → In (entry_at t i) (record_of t n)
  in_record i h = rw (record_get i h) at (in_at (record_of t n) i no_entry (rw record_length h))

  -- about its place i: the entries before it, the entry there, the rest
  pub record_at : (i : ℕ) → i < n → record_of t n ≡ record_of t i ++ entry_at t i ∷ drop (suc i) (record_of t n)
  unfolding record_of
  record_at i h =
      let s = split_at (record_of t n) i no_entry (rw record_length h) in
      rw (record_get i h, take-take i n (entries t) (omega arith)) at s

pub record_more : (t : Trail) (n : ℕ) → Room (suc n) t → record_of t (suc n) ≡ record_of t n ++ entry_at t n ∷ []
unfolding record_of
record_more t n r =
    let h = entries_room t (suc n) r in
    rw (take-suc (entries t) n no_entry h, entries_at t.lits t.kinds n r.lits r.kinds)

pub record_literals : (t : Trail) (n : ℕ) → Room n t → literals (record_of t n) ≡ take n t.lits
unfolding record_of entries zip_with literals
record_literals t n r = go t.lits t.kinds n r.lits r.kinds
  where
    go : (ls : List ℤ) (ks : List ℕ) (n : ℕ) → n ≤ length ls → n ≤ length ks → literals (record_of (trail ls ks) n) ≡ take n ls
    go ls ks zero h k = refl
    go [] ks (suc n) h k = absurd (not-suc-le-zero h)
    go (l ∷ ls) [] (suc n) h k = absurd (not-suc-le-zero k)
    go (l ∷ ls) (x ∷ ks) (suc n) h k = ap (λ t. l ∷ t) (go ls ks n (le_of_suc-le-suc h) (le_of_suc-le-suc k))

-- ---- an entry more, and a cut
pub record_put : (t : Trail) (n : ℕ) (e : Entry) → Room (n + 1) t → record_of (put t n e) (n + 1) ≡ record_of t n ++ e ∷ []
unfolding record_of
record_put t n e r =
    let h : n < length (entries t) = let m = entries_room t (n + 1) r in omega arith in
    rw (add-one, entries_put t.lits t.kinds n e, take-suc-set (entries t) n e h)

-- what is wiped from i on is no matter before it
record_before : (t : Trail) (i n to : ℕ) → n ≤ i → record_of (wiped_trail t i to) n ≡ record_of t n
unfolding record_of wiped
record_before t i n to h = rw (entries_wiped (to - i) t i) (wiped_before no_entry (entries t) i to n h)
  where
    entries_wiped : (m : ℕ) (t : Trail) (i : ℕ) → entries (trail (sets t.lits i (replicate m (pos 0))) (sets t.kinds i (replicate m 0))) ≡ sets (entries t) i (replicate m no_entry)
    entries_wiped zero t i = refl
    entries_wiped (suc m) t i = entries_wiped m (put t i no_entry) (suc i) ∙ rw (entries_put t.lits t.kinds i no_entry)

pub record_cut : (t : Trail) (n i : ℕ) (e : Entry) → i < n → Room n t → record_of (put (wiped_trail t (i + 1) n) i e) (i + 1) ≡ record_of t i ++ e ∷ []
record_cut t n i e h r =
    let a = wiped_length (pos 0) t.lits (i + 1) n in
    let b = wiped_length 0 t.kinds (i + 1) n in
    record_put (wiped_trail t (i + 1) n) i e (record { lits = omega arith; kinds = omega arith })
    ∙ ap (λ r. r ++ e ∷ []) (record_before t (i + 1) i n (omega arith))

-- ---- what row 12 leaves
pub record Passing (p : List ℤ) (t : Trail) (n : ℕ) : Type 0 where
  pub few : n ≤ length p
  pub named : any (no_variable (length p)) (literals (record_of t n)) ≡ false
  pub once : twice (literals (record_of t n)) ≡ false
  pub kinds : any (bad_kind p) (record_of t n) ≡ false

module _ (p : List ℤ) (t : Trail) (n : ℕ) where
  pub good : bad_record p t n ≡ false → Passing p t n
  unfolding bad_record bad_entries
  good h =
      let r = record_of t n in
      let a = any (no_variable (length p)) (literals r) in
      let b = twice (literals r) in
      let c = any (bad_kind p) r in
      let h' = or_fr (ltb (length p) n) (a || b || c) h in
      record {
        few = ltb-false (length p) n (or_fl (ltb (length p) n) (a || b || c) h);
        named = or_fl a b (or_fl (a || b) c h');
        once = or_fr a b (or_fl (a || b) c h');
        kinds = or_fr (a || b) c h';
      }

  pub good_passes : Passing p t n → bad_record p t n ≡ false
  unfolding bad_record bad_entries
  good_passes g = rw (le-ltb (length p) n g.few, g.named, g.once, g.kinds)

pub in_literals : {e : Entry} {r : Record} → In e r → In e.literal (literals r)
unfolding literals
in_literals (here e) = here (ap (λ x. x.literal) e)
in_literals (there i) = there (in_literals i)

-- ---- checked input
module _ {p : List ℤ} {t : Trail} {n : ℕ} (k : Kept p t n) where
  pub kept_good : Passing p t n
  kept_good = good p t n k.good

  pub kept_room : Room n t
  kept_room = room_less kept_good.few k.room

  pub kept_more : n < length p → Room (n + 1) t
  kept_more h = room_less (omega arith) k.room

  -- an entry's literal names a variable of the prefix
  pub kept_named : {i : ℕ} → i < n → Named (length p) (get_or t.lits i (pos 0))
  kept_named {i} h =
      named (length p) (get_or t.lits i (pos 0))
      (any_none (no_variable (length p)) (literals (record_of t n)) kept_good.named (in_literals (in_record t n kept_room i h)))
