-- What a page writes, and why it stops: the winners from its start to its next opening, in order, and no other word of the output. By
-- induction on the openings that are left: each turn searches one opening, whose end says whether it wins.
use Prim.Native.Nat.{ℕ, zero, suc, ◌+◌, ◌*◌, ◌-◌, ◌≤◌, ◌<◌}
use Rattle.std.specs.Prelude.{◌≡◌, ◌⊎◌, true, List, [], ◌∷◌, ◌++◌, get_or, take, drop, set}
use Rattle.std.proofs.Math.Path.{refl}
use Rattle.std.proofs.Common.{sym, ◌∙◌, ap, inl, inr, append_assoc, append-nil, arith, length-set, take-suc-set, drop-set-lt, get_or-set_same, get_or-set_other, drop-drop, le-leb}
use Rattle.std.proofs.Math.Bool.{false}
use Rattle.std.proofs.Math.Decide.{dec_le}
use Rattle.std.specs.Int.Count.{ones}
use Rattle.std.proofs.Math.ListN.{length}
use Rattle.std.proofs.lemmas.Bool.{lt-leb}
use Rattle.formula.specs.Formula.{Formula}
use Rattle.record.specs.declared.rule.State.{State}
use Rattle.record.specs.declared.rule.State.TheVariants.{Open, Valid, Unsat}
use Rattle.listing.specs.Opening.{openings}
use Rattle.listing.specs.Page.{Sheet, sheet, written, by_search, page_from}
use Rattle.listing.specs.Wins.{wins, listing, listing_won, listing_lost}
use Rattle.listing.specs.Claims.{Filled, Stops, at_end, no_room, unended}

-- ---- one entry written
module _ (n e : ℕ) (out : List ℕ) where
  pub written_length : length (written n e out) ≡ length out
  written_length = simp length-set

  written_last : 2 * e + 2 ≤ length out → get_or (written n e out) (2 * e) 0 ≡ n
  written_last h = get_or-set_other (set out (2 * e) n) (2 * e + 1) (2 * e) (ones n) 0 (λ z. omega arith) ∙ get_or-set_same out (2 * e) n 0 (omega arith)

  written_take : 2 * e + 2 ≤ length out → take (2 * (e + 1)) (written n e out) ≡ take (2 * e) out ++ n ∷ ones n ∷ []
  written_take h =
      let x : 2 * (e + 1) ≡ suc (2 * e + 1) = omega arith in
      let y : 2 * e + 1 ≡ suc (2 * e) = omega arith in
      let a : 2 * e + 1 < length (set out (2 * e) n) = simp length-set (omega arith) in
      let b : 2 * e < length out = omega arith in
      rw (x, take-suc-set (set out (2 * e) n) (2 * e + 1) (ones n) a, y, take-suc-set out (2 * e) n b) (append_assoc (take (2 * e) out) (n ∷ []) (ones n ∷ []))

  written_drop : drop (2 * (e + 1)) (written n e out) ≡ drop (2 * (e + 1)) out
  written_drop = drop-set-lt (2 * (e + 1)) (set out (2 * e) n) (2 * e + 1) (ones n) (omega arith) ∙ drop-set-lt (2 * (e + 1)) out (2 * e) n (omega arith)

-- ---- from `start` on the output `out`, one opening after the other
module _ (F : Formula) (start : ℕ) (out : List ℕ) where
  pub filled_none : start ≤ openings F → Filled F start out start 0 out
  filled_none h = record { up_to = h; few = omega arith; listed = append-nil (listing F start); fits = omega arith; long = refl; untouched = refl }

  module _ {n e : ℕ} {out' : List ℕ} (h : n < openings F) (f : Filled F start out n e out') where
    -- the opening n wins
    filled_won : 2 * e + 2 ≤ length out' → wins F n ≡ true → Filled F start out (n + 1) (e + 1) (written n e out')
    filled_won r w =
        let l = f.long in
        let d : 2 * e + 2 ≡ 2 * (e + 1) = omega arith in
        record {
          up_to = omega arith;
          few = omega (arith, f.few);
          listed = rw (written_take n e out' r, ← (append_assoc (listing F start) (take (2 * e) out') (n ∷ ones n ∷ [])), f.listed) (sym (listing_won F n w));
          fits = omega arith;
          long = written_length n e out' ∙ l;
          untouched = written_drop n e out' ∙ (rw (drop-drop 2 (2 * e) out', drop-drop 2 (2 * e) out, d) at (ap (drop 2) f.untouched));
        }

    filled_lost : wins F n ≡ false → Filled F start out (n + 1) e out'
    filled_lost w = record {
      up_to = omega arith;
      few = omega (arith, f.few);
      listed = f.listed ∙ sym (listing_lost F n w);
      fits = f.fits;
      long = f.long;
      untouched = f.untouched;
    }

  -- there is room for an entry, or the last entry is that of the opening before n
  abbrev Roomy : ℕ → ℕ → List ℕ → Type 0
  Roomy n e out' = (2 * e + 2 ≤ length out) ⊎ ((0 < e) × (get_or out' (2 * (e - 1)) 0 + 1 ≡ n))

  -- ends that are right
  module _ (ends : ℕ → State) (won : (n : ℕ) → ends n ≡ Valid → wins F n ≡ true) (lost : (n : ℕ) → ends n ≡ Unsat → wins F n ≡ false) where
    pub record Done (s : Sheet) : Type 0 where
      pub filled : Filled F start out s.next s.entries s.output
      pub stops : Stops ends (openings F) (length out) s

    -- the m openings from n on
    pub done : (m n e : ℕ) (out' : List ℕ) → n + m ≡ openings F → Filled F start out n e out' → Roomy n e out' → Done (page_from ends m n e out')
    unfolding page_from
    done zero n e out' t f r = record { filled = f; stops = at_end refl (omega arith) }
    done (suc m) n e out' t f r = elim (dec_le (2 * e + 2) (length out')) [
      | yes h ↦ rw (le-leb (2 * e + 2) (length out') h) (go h (ends n) refl (done m (n + 1) (e + 1) (written n e out') (omega arith)) (done m (n + 1) e out' (omega arith)))
      | no h ↦ rw (lt-leb (2 * e + 2) (length out') (omega arith)) (record { filled = f; stops = full h r })
    ]
      where
        full : (2 * e + 2 ≤ length out' → ⊥) → Roomy n e out' → Stops ends (openings F) (length out) (sheet n e false out')
        full h (inl r) = absurd (h (rw f.long r))
        full h (inr r) = let l = f.long in no_room refl (omega arith) (omega arith) r.0 r.1

        go : 2 * e + 2 ≤ length out' → (st : State) → ends n ≡ st
            → (Filled F start out (n + 1) (e + 1) (written n e out') → Roomy (n + 1) (e + 1) (written n e out') → Done (page_from ends m (n + 1) (e + 1) (written n e out')))
            → (Filled F start out (n + 1) e out' → Roomy (n + 1) e out' → Done (page_from ends m (n + 1) e out'))
            → Done (by_search st (page_from ends m (n + 1) (e + 1) (written n e out')) (page_from ends m (n + 1) e out') (sheet n e true out'))
        go h Valid s a b = let z : e + 1 - 1 ≡ e = omega arith in a (filled_won (omega arith) f h (won n s)) (inr (omega arith, rw (z, written_last n e out' h)))
        go h Unsat s a b = b (filled_lost (omega arith) f (lost n s)) (inl (rw (← f.long) h))
        go h Open s a b = record { filled = f; stops = unended refl (record { left = omega arith; room = rw (← f.long) h; live = s }) }
