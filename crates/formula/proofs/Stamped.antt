-- Rows 10 and 23 in one clause, from its last literal to its first: the literals passed have the clause's stamp, no two of them are opposites, and it
-- was seen if two of them are the same.
use Rattle.std.specs.Prelude.{◌≡◌, refl, Bool, false, ◌||◌, List, ℕ, ◌+◌, ◌-◌, ◌*◌, ◌≤◌, ◌<◌, eqb, ℤ, pos, neg_ℤ, nat_abs, length, drop, get_or, set, Ok}
use Rattle.std.proofs.Common.{sym, ◌∙◌, ap, arith, length-set, get_or-set_same, get_or-set_other}
use Rattle.std.proofs.Math.Decide.{ℕ_discrete}
use Rattle.std.proofs.Math.Bool.{or_comm}
use borrow.Author.Tests.{eq-eqb, ne_eqb}
use Rattle.words.specs.Outcomes.{refused}
use Rattle.words.specs.Words.{eq_z, mem}
use Rattle.words.specs.Laws.Lists.{next, ended}
use Rattle.words.specs.Laws.Words.{eq_z_refl, eq_z_ne, nat_abs_neg}
use Rattle.formula.specs.Limits.{limits}
use Rattle.formula.specs.Laws.Limits.{variables_are}
use Rattle.formula.specs.Block.{both_signs, repeats}
use Rattle.formula.specs.Laws.Once.{signs_drop, signs_at, repeats_at}
use Rattle.formula.specs.Inner.Places.{literal_places, place_of, word_at}
use Rattle.formula.specs.Laws.Places.{place_word, word_place, place_within, place_opposite}
use Rattle.formula.specs.Inner.Tables.{pair_of, Fresh}

pub record Stamped (ls : List ℤ) (stamp : ℕ) (marks : List ℕ) (again : Bool) (i : ℕ) : Type 0 where
  pub at : i ≤ length ls
  pub fresh : Fresh (stamp + 1) marks
  pub marked : (k : ℕ) → eqb (get_or marks k 0) stamp ≡ mem (word_at k) (drop i ls)
  pub plain : both_signs (drop i ls) ≡ false
  pub told : again ≡ repeats (drop i ls)

pub begin : (ls : List ℤ) (stamp : ℕ) (marks : List ℕ) → Fresh stamp marks → Stamped ls stamp marks false (length ls)
unfolding mem both_signs repeats
begin ls stamp marks f =
    let none = ended ls (length ls) (omega arith) in
    record {
      at = omega arith;
      fresh = record { room = f.room; under = λ k. omega (arith, f.under k) };
      marked = λ k. rw none (ne_eqb (get_or marks k 0) stamp (λ e. omega (arith, f.under k)));
      plain = rw none;
      told = rw none;
    }

fresh_set : (stamp : ℕ) (marks : List ℕ) (p : ℕ) → p < length marks → Fresh (stamp + 1) marks → Fresh (stamp + 1) (set marks p stamp)
fresh_set stamp marks p h f = record { room = length-set marks p stamp ∙ f.room; under = λ k. by k (ℕ_discrete k p) }
  where
    by : (k : ℕ) → Dec (k ≡ p) → get_or (set marks p stamp) k 0 < stamp + 1
    by k (yes e) = rw (e, get_or-set_same marks p stamp 0 h) (omega arith)
    by k (no d) = rw (get_or-set_other marks p k stamp 0 d) (f.under k)

-- a literal's place is within the table, and its opposite's is as far from the other end
module _ (w : ℤ) (small : nat_abs w ≤ limits.variables) (own : ℕ) (is-own : own ≡ place_of w) where
  pub own_within : own < literal_places
  own_within = omega (arith, variables_are, place_within w small)

  own_word : word_at own ≡ w
  own_word = rw is-own (word_place w small)

  other_word : word_at (2 * limits.variables - own) ≡ neg_ℤ w
  other_word =
      let l : nat_abs (neg_ℤ w) ≤ limits.variables = rw (nat_abs_neg w) small in
      rw (is-own, ← place_opposite w small) (word_place (neg_ℤ w) l)

module _ (ls : List ℤ) (stamp : ℕ) (marks : List ℕ) (again : Bool) (i : ℕ) (p : Stamped ls stamp marks again i) where
  pub end : i ≤ 0 → Ok again ≡ pair_of ls
  end h = let z : i ≡ 0 = omega arith in rw (rw z at p.plain, rw z at p.told)

  -- one literal further to the front, with its place and its opposite's
  module _ (j : ℕ) (step : j + 1 ≡ i) (small : nat_abs (get_or ls j (pos 0)) ≤ limits.variables) (own : ℕ) (is-own : own ≡ place_of (get_or ls j (pos 0))) (other : ℕ) (is-other : other ≡ 2 * limits.variables - own) where
    near : j < length ls
    near = let z : i ≤ length ls = p.at in omega arith

    signs : both_signs (drop j ls) ≡ eqb (get_or marks other 0) stamp || both_signs (drop i ls)
    signs = signs_at ls j near ∙ rw (step, p.marked other, is-other, other_word (get_or ls j (pos 0)) small own is-own)

    twin : repeats (drop j ls) ≡ again || eqb (get_or marks own 0) stamp
    twin =
        repeats_at ls j near
        ∙ rw (step, p.told, p.marked own, own_word (get_or ls j (pos 0)) small own is-own) (or_comm (mem (get_or ls j (pos 0)) (drop i ls)) (repeats (drop i ls)))

    pub hit : get_or marks other 0 ≡ stamp → refused 10 ≡ pair_of ls
    hit e = rw (signs_drop j ls (signs ∙ rw (eq-eqb (get_or marks other 0) stamp e)))

    mark : own < length marks → (k : ℕ) → eqb (get_or (set marks own stamp) k 0) stamp ≡ eq_z (word_at k) (get_or ls j (pos 0)) || mem (word_at k) (drop i ls)
    mark room k = by (ℕ_discrete k own)
      where
        by : Dec (k ≡ own) → eqb (get_or (set marks own stamp) k 0) stamp ≡ eq_z (word_at k) (get_or ls j (pos 0)) || mem (word_at k) (drop i ls)
        by (yes e) = rw (e, get_or-set_same marks own stamp 0 room, eq-eqb stamp stamp refl, own_word (get_or ls j (pos 0)) small own is-own, eq_z_refl (get_or ls j (pos 0)))
        by (no d) =
            let differ : word_at k ≡ get_or ls j (pos 0) → ⊥ = λ e. d (sym (place_word k) ∙ ap place_of e ∙ sym is-own) in
            rw (get_or-set_other marks own k stamp 0 d, eq_z_ne differ) (p.marked k)

    pub more : (get_or marks other 0 ≡ stamp → ⊥) → Stamped ls stamp (set marks own stamp) (again || eqb (get_or marks own 0) stamp) j
    unfolding mem
    more e =
        let room : own < length marks = omega (arith, p.fresh.room, own_within (get_or ls j (pos 0)) small own is-own) in
        record {
          at = omega (arith, near);
          fresh = fresh_set stamp marks own room p.fresh;
          marked = λ k. rw (next ls j (pos 0) near, step) (mark room k);
          plain = signs ∙ rw (ne_eqb (get_or marks other 0) stamp e) p.plain;
          told = sym twin;
        }
