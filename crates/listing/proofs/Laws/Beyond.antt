-- The work record from place V on is never written, and the first V places are wiped before each search and at the end: so each search of a
-- page is as if it were the first, whatever the searches before it left. From the rules' own law that no place past the record is written,
-- since a record has at most V entries; and from that a search depends on its record alone.
use Rattle.std.specs.Prelude.{ℕ, zero, suc, ◌≤◌, ◌≡◌, List, ℤ, pos, length, get_or}
use Rattle.std.proofs.Math.Path.{refl, sym}
use Rattle.std.proofs.Common.{◌∙◌, ap, inl, inr, ext_get_or}
use Rattle.std.proofs.Math.Decide.{dec_le}
use native.Mathlib.Omega.{arith}
use Rattle.std.proofs.Math.Seq.{length-sets}
use Rattle.words.specs.Laws.Bools.{look}
use Rattle.formula.specs.Formula.{Formula}
use Rattle.theory.specs.Record.{true_in, Entry}
use Rattle.theory.specs.Witness.{group_of}
use Rattle.rules.specs.Due.{due}
use Rattle.choice.specs.Preferred.{proposal_of}
use Rattle.record.specs.Search.{Search, record_in}
use Rattle.record.specs.Trail.{wiped, Trail, wiped_trail}
use Rattle.record.specs.Inner.Ready.{Binds, KeptIn, Room}
use Rattle.words.specs.Laws.Stores.{sets_outside}
use Rattle.record.proofs.Laws.Wiped.{wiped_length, wiped_inside, wiped_outside}
use Rattle.record.proofs.Laws.Records.{kept_good}
use Rattle.record.proofs.Laws.Wiped.{wiped_other}
use Rattle.applied.specs.Laws.Untouched.{apply_lengths, apply_untouched}
use Rattle.search.specs.Run.{advance, run_from, over}
use Rattle.search.proofs.Laws.Runs.{over_open, advance_keeps, loop_last, run_ended, run_further}
use Rattle.listing.specs.Opening.{values_of, opening_start, opening_search, opening_end}
use Rattle.listing.specs.Claims.{Beyond}
use Rattle.listing.proofs.Laws.Values.{values_length, group_few, group_length}
use Rattle.listing.proofs.Laws.Start.{starts}
use Rattle.listing.proofs.Laws.Alike.{run_alike}

module _ {n : ℕ} {work : Trail} where
  pub beyond_refl : Beyond n work work
  beyond_refl = record { lengths = (refl, refl); places = λ j h. refl }

  module _ {work' : Trail} (a : Beyond n work work') where
    pub beyond_trans : {work'' : Trail} → Beyond n work' work'' → Beyond n work work''
    beyond_trans b = record { lengths = (b.lengths.0 ∙ a.lengths.0, b.lengths.1 ∙ a.lengths.1); places = λ j h. b.places j h ∙ a.places j h }

    pub beyond_room : Room n work → Room n work'
    beyond_room r = record { lits = rw a.lengths.0 r.lits; kinds = rw a.lengths.1 r.kinds }

-- ---- wiping leaves the places from n on, and makes the others equal
pub wiped_beyond : (n : ℕ) (work : Trail) → Beyond n work (wiped_trail work 0 n)
wiped_beyond n work = record { lengths = (wiped_length (pos 0) work.lits 0 n, wiped_length 0 work.kinds 0 n); places = λ j h. wiped_other work 0 n j (inr h) }

same_wiped : {A : Type 0} (z : A) (n : ℕ) (l l' : List A) → length l' ≡ length l → ((j : ℕ) → n ≤ j → get_or l' j z ≡ get_or l j z) → wiped z l' 0 n ≡ wiped z l 0 n
same_wiped z n l l' e f = ext_get_or z (wiped z l' 0 n) (wiped z l 0 n) (rw (wiped_length z l' 0 n, wiped_length z l 0 n) e) (λ j h. elim (dec_le n j) [
  | yes k ↦ wiped_outside z l' 0 n j z (inr k) ∙ f j k ∙ sym (wiped_outside z l 0 n j z (inr k))
  | no k ↦ wiped_inside z l' 0 n j (omega arith) (omega arith) ∙ sym (wiped_inside z l 0 n j (omega arith) (omega arith))
])

pub wiped_again : {n : ℕ} {work work' : Trail} → Beyond n work work' → wiped_trail work' 0 n ≡ wiped_trail work 0 n
wiped_again {n} {work} {work'} a =
    rw (
      same_wiped (pos 0) n work.lits work'.lits a.lengths.0 (λ j h. ap (λ (e : Entry). e.literal) (a.places j h)),
      same_wiped 0 n work.kinds work'.kinds a.lengths.1 (λ j h. ap (λ (e : Entry). e.kind) (a.places j h)),
    )

-- ---- one rule, and a search, write no place from V on
module _ (F : Formula) (preferred : List ℤ) where
  advance_beyond : (t : Search) → KeptIn F.prefix t → let u = advance F preferred t in Beyond (length F.prefix) t.trail u.trail
  unfolding advance
  advance_beyond t k =
      let x = proposal_of F.prefix (true_in (record_in t)) preferred (due F (record_in t)) in
      let rule = due F (record_in t) in
      let a = (kept_good k).few in
      let b = (kept_good (advance_keeps F preferred t k)).few in
      record { lengths = apply_lengths F.prefix rule x t; places = λ j h. apply_untouched F.prefix rule x t j (inr (omega arith, omega arith)) }

  run_beyond : (n : ℕ) (t : Search) → KeptIn F.prefix t → let u = (run_from F preferred n t 0).reached in Beyond (length F.prefix) t.trail u.trail
  run_beyond zero t k = rw (loop_last F preferred 0 t 0 (omega arith)) beyond_refl
  run_beyond (suc n) t k = elim (look (over t.state)) [
    | inl h ↦ rw (run_ended F preferred (suc n) t 0 h) beyond_refl
    | inr h ↦ rw (run_further F preferred n t (over_open t.state h)) (beyond_trans (advance_beyond t k) (run_beyond n (advance F preferred t) (advance_keeps F preferred t k)))
  ]

-- ---- a page's searches, on buffers that pass row 11
module _ (F : Formula) (binds : Binds F.prefix) (preferred : List ℤ) (budget : ℕ) (work : Trail) (lent : Room (length F.prefix) work) (n : ℕ) where
  start_beyond : Beyond (length F.prefix) work (opening_start F work n).trail
  unfolding opening_start
  start_beyond =
      let k = values_length n (group_of F) ∙ group_length F in
      let h = group_few F.prefix in
      let w = wiped_beyond (length F.prefix) work in
      beyond_trans w (record {
        lengths = (length-sets _ 0 (values_of n (group_of F)), refl);
        places = λ j i. rw (sets_outside (values_of n (group_of F)) (wiped (pos 0) work.lits 0 (length F.prefix)) 0 j (pos 0) (inr (omega arith)));
      })

  -- what a search leaves differs in the first V places only
  pub search_beyond : Beyond (length F.prefix) work (opening_search F preferred budget work n).trail
  search_beyond = beyond_trans start_beyond (run_beyond F preferred budget (opening_start F work n) (starts F binds work n lent).kept)

  -- and on other buffers it ends in the same way
  pub same_end : (work' : Trail) → Room (length F.prefix) work' → opening_end F preferred budget work n ≡ opening_end F preferred budget work' n
  unfolding opening_start
  same_end work' lent' =
      let s = starts F binds work n lent in
      let s' = starts F binds work' n lent' in
      (run_alike F preferred budget 0 s.kept s'.kept (record { held = s.held ∙ sym s'.held; count = refl; state = refl })).state
