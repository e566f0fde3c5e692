-- [opening.start] Where an opening's search starts: the record that its buffers hold, why it passes row 12 and is one that the theory can start
-- from. The first V places are wiped and the values are put at their start; the values are of distinct variables, since the prefix is.
use Rattle.std.specs.Prelude.{ℕ, zero, suc, ◌<◌, ◌≡◌, refl, true, ◌||◌, List, [], ◌∷◌, ◌++◌, ℤ, pos, length, get_or, take, drop}
use Rattle.std.proofs.Math.Path.{sym}
use Rattle.std.proofs.Common.{◌∙◌, ap, inl, inr, not-suc-le-zero, le_of_suc-le-suc, arith, take-append-drop}
use Rattle.std.proofs.Math.Seq.{length-sets, ext_get_or}
use Rattle.words.specs.Laws.Bools.{and_i, or_l, or_r}
use Rattle.words.specs.Lists.{In, here, there, all}
use Rattle.formula.specs.Formula.{Formula, first_group, existential, universal}
use Rattle.formula.specs.Laws.Prefix.{stands, stands_i, stands_append, stands_bound}
use Rattle.theory.specs.Record.{entry, Record, forced}
use Rattle.theory.specs.Start.{suits, all_suit, Good}
use Rattle.theory.specs.Witness.{group_of}
use Rattle.theory.proofs.Laws.Assignment.{given_literals}
use Rattle.theory.specs.Grown.{given}
use Rattle.theory.proofs.Laws.Group.{twice_take}
use Rattle.record.specs.Trail.{Trail, wiped, no_entry}
use Rattle.record.specs.Search.{record_in}
use Rattle.record.specs.Inner.Ready.{Binds, KeptIn, Room}
use Rattle.record.proofs.Laws.Wiped.{wiped_length, wiped_inside}
use Rattle.record.proofs.Laws.Records.{room_less, record_length, record_get}
use Rattle.record.proofs.Laws.Good.{good_kept}
use Rattle.listing.specs.Opening.{values_of, opening_start}
use Rattle.words.specs.Laws.Stores.{sets_first}
use Rattle.listing.proofs.Laws.Values.{values_length, values_stand, values_twice, group_few, group_length}

-- ---- a record of forced literals
-- that of the opening n
abbrev pub opened : Formula → ℕ → Record
opened F n = given (values_of n (group_of F))

given_length : (vs : List ℤ) → length (given vs) ≡ length vs
unfolding given
given_length [] = refl
given_length (v ∷ vs) = ap suc (given_length vs)

given_forced : (vs : List ℤ) → forced (given vs) ≡ true
unfolding given forced all
given_forced [] = refl
given_forced (v ∷ vs) = given_forced vs

given_suited : (p vs : List ℤ) → ((x : ℤ) → In x vs → stands p x ≡ true) → all_suit p (given vs) ≡ true
unfolding given all suits all_suit
given_suited p [] h = refl
given_suited p (v ∷ vs) h =
    and_i {a = existential p v || universal p v}
    (elim (stands_bound p v (h v (here refl))) [ inl e ↦ or_l (universal p v) e | inr e ↦ or_r (existential p v) e ])
    (given_suited p vs (λ x i. h x (there i)))

given_at : (vs : List ℤ) (i : ℕ) → i < length vs → get_or (given vs) i no_entry ≡ entry 0 (get_or vs i (pos 0))
unfolding given
given_at [] i h = absurd (not-suc-le-zero h)
given_at (v ∷ vs) zero h = refl
given_at (v ∷ vs) (suc i) h = given_at vs i (le_of_suc-le-suc h)

-- ---- the opening n
-- its words are bound by the prefix
group_stands : (F : Formula) (n : ℕ) (x : ℤ) → In x (values_of n (group_of F)) → stands F.prefix x ≡ true
group_stands F n x i =
    let k = first_group F.prefix in
    let p = F.prefix in
    let h = sym (values_stand n (group_of F) x) ∙ stands_i x i refl in
    let e : stands (take k p ++ drop k p) x ≡ true = rw (stands_append (take k p) (drop k p) x) (or_l (stands (drop k p) x) h) in
    rw (take-append-drop k p) at e

-- what its search starts from, on buffers that pass row 11
pub record Starts (F : Formula) (work : Trail) (n : ℕ) : Type 0 where
  -- the buffers hold the values, all of kind 0
  pub held : record_in (opening_start F work n) ≡ opened F n
  pub kinds : forced (opened F n) ≡ true
  pub count : length (opened F n) ≡ first_group F.prefix
  -- the theory can start from it: each variable once, of the prefix; and rows 11 and 12 would pass
  pub good : Good F (opened F n)
  pub kept : KeptIn F.prefix (opening_start F work n)

module _ (F : Formula) (binds : Binds F.prefix) (work : Trail) (n : ℕ) (lent : Room (length F.prefix) work) where
  values_count : length (values_of n (group_of F)) ≡ first_group F.prefix
  values_count = values_length n (group_of F) ∙ group_length F

  start_room : Room (length F.prefix) (opening_start F work n).trail
  unfolding opening_start
  start_room = record { lits = rw (length-sets, wiped_length) lent.lits; kinds = rw wiped_length lent.kinds }

  start_held : record_in (opening_start F work n) ≡ opened F n
  unfolding opening_start
  start_held =
      let t = (opening_start F work n).trail in
      let k = first_group F.prefix in
      let few = group_few F.prefix in
      let v = values_count in
      let w = wiped_length (pos 0) work.lits 0 (length F.prefix) in
      let room : Room k t = room_less few start_room in
      let e = record_length t k room in
      ext_get_or no_entry (record_in (opening_start F work n)) (opened F n) (e ∙ sym (given_length (values_of n (group_of F)) ∙ v)) (λ i h. (
      record_get t k room i (rw e at h)
      ∙ rw (
        wiped_inside 0 work.kinds 0 (length F.prefix) i (omega arith) (omega arith),
        sets_first (values_of n (group_of F)) (wiped (pos 0) work.lits 0 (length F.prefix)) i (pos 0) (omega arith) (omega arith),
        given_at (values_of n (group_of F)) i (omega arith),
      )
      ))

  opened_good : Good F (opened F n)
  opened_good = record {
    distinct = rw (given_literals (values_of n (group_of F))) (values_twice n (group_of F) (twice_take (first_group F.prefix) F.prefix binds.once));
    suited = given_suited F.prefix (values_of n (group_of F)) (group_stands F n);
  }

  pub starts : Starts F work n
  unfolding opening_start
  starts = record {
    held = start_held;
    kinds = given_forced (values_of n (group_of F));
    count = given_length (values_of n (group_of F)) ∙ values_count;
    good = opened_good;
    kept = record {
      prefix = binds;
      room = start_room;
      good = good_kept F (opening_start F work n).trail (first_group F.prefix) binds (group_few F.prefix) (rw start_held opened_good);
    };
  }
