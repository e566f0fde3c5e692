-- One literal more, or the last one less, leaves numbers and bounds good when its clauses and its opposite's were gone through.
use Rattle.std.specs.Prelude.{ℕ, suc, ◌+◌, ◌≤◌, ◌<◌, ◌≡◌, refl, ◌⊎◌, Bool, true, false, cond, List, [], ◌∷◌, ◌++◌, map, ℤ, neg_ℤ, nat_abs, length, get_or, drop, Some, None}
use Rattle.std.proofs.Common.{sym, ◌∙◌, ap, ap₂, inl, inr, arith}
use Rattle.std.proofs.lemmas.List.{length-map}
use Rattle.words.specs.Words.{mem}
use Rattle.words.specs.Lists.{In}
use Rattle.words.specs.Laws.Bools.{look, to_false}
use Rattle.words.specs.Laws.Lists.{in_at}
use Rattle.words.specs.Laws.Words.{nat_abs_neg}
use Rattle.formula.specs.Limits.{limits}
use Rattle.formula.specs.Formula.{existential}
use Rattle.formula.specs.Inner.Places.{place_of}
use Rattle.theory.specs.Record.{Assignment, assigned}
use Rattle.theory.specs.Tests.{unassigned_existential, in_conflict}
use Rattle.theory.specs.Grown.{put}
use Rattle.clauses.specs.Lowest.{lowest}
use Rattle.rules.specs.Due.{is_unit}
use Rattle.rules.specs.Inner.Tabled.{Sorted}
use Rattle.counted.specs.Fresh.{opens, bit, trues}
use Rattle.counted.specs.Inner.Index.{listed}
use Rattle.counted.specs.Inner.Numbers.{Filled, Least, NoneFrom, Rest, key_at}
use Rattle.counted.specs.Inner.State.{AllOnce, Counted, Once}
use Rattle.counted.specs.Inner.Walk.{Movable, Renumbered, added}
use Rattle.counted.proofs.Laws.Counts.{count_most}
use Rattle.counted.proofs.Laws.Held.{holds, held_below, none_past}
use Rattle.counted.proofs.Laws.Keys.{key, opens_put, opens_stay, trues_put, unit_key, unit_stays}
use Rattle.counted.proofs.Laws.Numbers.{conflict_least, conflict_none, none_all, numbers_mean}
use Rattle.counted.proofs.Laws.Walk.{added_none, moved_rest}
use Rattle.counted.specs.declared.numbers.Numbers.{Numbers}
use Rattle.counted.specs.declared.walk.Bounds.{Bounds}

cond_bit : (b : Bool) → cond b 1 0 ≡ bit b
cond_bit true = refl
cond_bit false = refl

cond_zero : (b : Bool) → ◌≡◌ {A = ℕ} (cond b 0 0) 0
cond_zero true = refl
cond_zero false = refl

-- one true literal, and some open ones
abbrev pub one_true : Numbers
one_true = record { trues = 1; opens = 0 }

abbrev pub some_open : ℕ → Numbers
some_open e = record { trues = 0; opens = e }

module _ (p : List ℤ) (m : List (List ℤ)) (all : AllOnce m) (ρ : Assignment) (l : ℤ) (some : 0 < nat_abs l) (h : nat_abs l ≤ limits.variables) (free : assigned ρ l ≡ false) (e : ℕ) (is : e ≡ bit (existential p l))
    (L M : List ℕ) (l-is : L ≡ listed 0 m (place_of l)) (m-is : M ≡ listed 0 m (place_of (neg_ℤ l))) where
  -- how often a clause stands among those of l, and of its opposite
  own : (a c : ℕ) → added a c L ≡ cond (mem l (get_or m c [])) a 0
  own a c = rw l-is (holds l h a c m all)

  opp : (a c : ℕ) → added a c M ≡ cond (mem (neg_ℤ l) (get_or m c [])) a 0
  opp a c = rw m-is (holds (neg_ℤ l) (rw (nat_abs_neg l) h) a c m all)

  held_own : (c : ℕ) → 0 < added 1 c L → c < length m
  held_own c k = held_below m all l h c (rw l-is at k)

  held_opp : (c : ℕ) → 0 < added 1 c M → c < length m
  held_opp c k = held_below m all (neg_ℤ l) (rw (nat_abs_neg l) h) c (rw m-is at k)

  past_own : (a c : ℕ) → length m ≤ c → added a c L ≡ 0
  past_own a c k = rw l-is (none_past m all l h a c k)

  past_opp : (a c : ℕ) → length m ≤ c → added a c M ≡ 0
  past_opp a c k = rw m-is (none_past m all (neg_ℤ l) (rw (nat_abs_neg l) h) a c k)

  -- the numbers of a clause, with the literal and without
  module _ (c : ℕ) (k : c < length m) where
    fine : Once (get_or m c [])
    fine = all (get_or m c []) (in_at m c [] k)

    trues_put_moves : trues (put l ρ) (get_or m c []) ≡ trues ρ (get_or m c []) + added 1 c L
    trues_put_moves = rw (own 1 c, cond_bit (mem l (get_or m c []))) (trues_put p ρ l some free (get_or m c []) fine.once)

    opens_put_moves : opens p ρ (get_or m c []) ≡ opens p (put l ρ) (get_or m c []) + (added e c L + added e c M)
    opens_put_moves = rw (own e c, opp e c) (by (look (existential p l)))
      where
        C : List ℤ
        C = get_or m c []

        by : (existential p l ≡ true) ⊎ (existential p l ≡ false) → opens p ρ C ≡ opens p (put l ρ) C + (cond (mem l C) e 0 + cond (mem (neg_ℤ l) C) e 0)
        by (inl t) =
            let z : e ≡ 1 = is ∙ ap bit t in
            rw (z, cond_bit (mem l C), cond_bit (mem (neg_ℤ l) C)) (opens_put p ρ l some free C fine.once t)
        by (inr t) =
            let z : e ≡ 0 = is ∙ ap bit t in
            rw (z, cond_zero (mem l C), cond_zero (mem (neg_ℤ l) C)) (omega (arith, opens_stay p ρ l some free C t))

    few : (τ : Assignment) → (trues τ (get_or m c []) ≤ limits.literals) × (opens p τ (get_or m c []) ≤ limits.literals)
    few τ = (omega (arith, count_most τ (get_or m c []), fine.short), omega (arith, count_most (unassigned_existential p τ) (get_or m c []), fine.short))

    none_own : added 0 c L ≡ 0
    none_own = own 0 c ∙ cond_zero (mem l (get_or m c []))

    none_opp : added 0 c M ≡ 0
    none_opp = opp 0 c ∙ cond_zero (mem (neg_ℤ l) (get_or m c []))

  -- ---- from an assignment to another: what the clauses of l get more and less, and those of its opposite of the open literals
  pub record Change (τ υ : Assignment) (more less : Numbers) : Type 0 where
    trues_move : (c : ℕ) → c < length m → trues τ (get_or m c []) + added more.trues c L ≡ trues υ (get_or m c []) + added less.trues c L
    trues_small : (c : ℕ) → c < length m → trues τ (get_or m c []) + added more.trues c L ≤ limits.literals
    trues_enough : (c : ℕ) → c < length m → added less.trues c L ≤ trues τ (get_or m c [])
    opens_move : (c : ℕ) → c < length m → opens p τ (get_or m c []) + (added more.opens c L + added more.opens c M)
        ≡ opens p υ (get_or m c []) + (added less.opens c L + added less.opens c M)
    opens_small : (c : ℕ) → c < length m → opens p τ (get_or m c []) + (added more.opens c L + added more.opens c M) ≤ limits.literals
    opens_enough : (c : ℕ) → c < length m → added less.opens c L + added less.opens c M ≤ opens p τ (get_or m c [])
    stays : (C : List ℤ) → mem l C ≡ false → mem (neg_ℤ l) C ≡ false → is_unit p υ C ≡ is_unit p τ C

  pub is_set : Change ρ (put l ρ) one_true (some_open e)
  is_set = record {
    trues_move = λ c k. omega (arith, trues_put_moves c k, none_own c k);
    trues_small = λ c k. omega (arith, trues_put_moves c k, (few c k (put l ρ)).0);
    trues_enough = λ c k. omega (arith, none_own c k);
    opens_move = λ c k. omega (arith, opens_put_moves c k, none_own c k, none_opp c k);
    opens_small = λ c k. omega (arith, none_own c k, none_opp c k, (few c k ρ).1);
    opens_enough = λ c k. omega (arith, opens_put_moves c k);
    stays = λ C g f. unit_stays p ρ l some free C g f;
  }

  pub is_back : Change (put l ρ) ρ (some_open e) one_true
  is_back = record {
    trues_move = λ c k. omega (arith, trues_put_moves c k, none_own c k);
    trues_small = λ c k. omega (arith, none_own c k, (few c k (put l ρ)).0);
    trues_enough = λ c k. omega (arith, trues_put_moves c k);
    opens_move = λ c k. omega (arith, opens_put_moves c k, none_own c k, none_opp c k);
    opens_small = λ c k. omega (arith, opens_put_moves c k, (few c k ρ).1);
    opens_enough = λ c k. omega (arith, none_own c k, none_opp c k);
    stays = λ C g f. sym (unit_stays p ρ l some free C g f);
  }

  -- ---- a clause that was gone through, or has not the variable: no unit clause below the bound
  module _ (c : ℕ) (k : c < length m) where
    not_unit : (τ : Assignment) (ts os : List ℕ) → (get_or ts c 0 ≡ trues τ (get_or m c [])) × (get_or os c 0 ≡ opens p τ (get_or m c [])) → (key_at ts os c ≡ 1 → ⊥) → is_unit p τ (get_or m c []) ≡ false
    not_unit τ ts os n f = to_false _ (λ u. f (let z = unit_key p τ (get_or m c []) _ (fine c k).once u in omega (arith, n.0, n.1)))

  -- ---- both walks
  module _ (τ υ : Assignment) (more less : Numbers) (x : Change τ υ more less) (ts os : List ℕ) (b : Bounds) (s : Counted p m τ ts os b) where
    pub own_trues : Movable more.trues less.trues L ts
    own_trues = record {
      inside = λ c i. let k = held_own c i in omega (arith, s.trues_room);
      small = λ c i. let k = held_own c i in omega (arith, (s.numbers c k).0, x.trues_small c k);
      enough = λ c i. let k = held_own c i in omega (arith, (s.numbers c k).0, x.trues_enough c k);
    }

    pub own_opens : Movable more.opens less.opens L os
    own_opens = record {
      inside = λ c i. let k = held_own c i in omega (arith, s.opens_room);
      small = λ c i. let k = held_own c i in omega (arith, (s.numbers c k).1, x.opens_small c k);
      enough = λ c i. let k = held_own c i in omega (arith, (s.numbers c k).1, x.opens_enough c k);
    }

    module _ (ts₁ os₁ : List ℕ) (b₁ : Bounds) (w : Renumbered more less L ts os b [] ts₁ os₁ b₁) where
      first_trues : (c : ℕ) → c < length m → get_or ts₁ c 0 ≡ trues υ (get_or m c [])
      first_trues c k = omega (arith, w.trues.said c, added_none more.trues c, added_none less.trues c, (s.numbers c k).0, x.trues_move c k)

      first_opens : (c : ℕ) → c < length m → get_or os₁ c 0 + added less.opens c L ≡ opens p τ (get_or m c []) + added more.opens c L
      first_opens c k = omega (arith, w.opens.said c, added_none more.opens c, added_none less.opens c, (s.numbers c k).1)

      pub opp_trues : Movable 0 0 M ts₁
      opp_trues = record {
        inside = λ c i. let k = held_opp c i in omega (arith, s.trues_room, w.trues.kept);
        small = λ c i. let k = held_opp c i in omega (arith, first_trues c k, (few c k υ).0, none_opp c k);
        enough = λ c i. let k = held_opp c i in omega (arith, none_opp c k);
      }

      pub opp_opens : Movable more.opens less.opens M os₁
      opp_opens = record {
        inside = λ c i. let k = held_opp c i in omega (arith, s.opens_room, w.opens.kept);
        small = λ c i. let k = held_opp c i in omega (arith, first_opens c k, x.opens_small c k);
        enough = λ c i. let k = held_opp c i in omega (arith, first_opens c k, x.opens_enough c k);
      }

      module _ (ts₂ os₂ : List ℕ) (b₂ : Bounds) (y : Renumbered (some_open more.opens) (some_open less.opens) M ts₁ os₁ b₁ [] ts₂ os₂ b₂) where
        numbers_then : (c : ℕ) → c < length m → (get_or ts₂ c 0 ≡ trues υ (get_or m c [])) × (get_or os₂ c 0 ≡ opens p υ (get_or m c []))
        numbers_then c k = (
          omega (arith, y.trues.said c, added_none 0 c, none_opp c k, first_trues c k),
          omega (arith, y.opens.said c, added_none more.opens c, added_none less.opens c, first_opens c k, x.opens_move c k),
        )

        unit_then : (c : ℕ) → c < b₂.unit → is_unit p υ (get_or m c []) ≡ false
        unit_then c u = by (look (mem (neg_ℤ l) C)) (look (mem l C))
          where
            C : List ℤ
            C = get_or m c []

            k : c < length m
            k = omega (arith, s.unit_most, w.bounds.unit_less, y.bounds.unit_less)

            by : (mem (neg_ℤ l) C ≡ true) ⊎ (mem (neg_ℤ l) C ≡ false) → (mem l C ≡ true) ⊎ (mem l C ≡ false) → is_unit p υ C ≡ false
            by (inl t) r =
                let a : added 1 c M ≡ 1 = opp 1 c ∙ (rw t) in
                not_unit c k υ ts₂ os₂ (numbers_then c k) (y.bounds.unit c u (omega arith) (added_none 1 c))
            by (inr f) (inl t) =
                let a : added 1 c L ≡ 1 = own 1 c ∙ (rw t) in
                let z : added more.opens c M ≡ 0 = opp more.opens c ∙ (rw f) in
                let q : added less.opens c M ≡ 0 = opp less.opens c ∙ (rw f) in
                not_unit c k υ ts₁ os₁ (first_trues c k, omega (arith, first_opens c k, x.opens_move c k)) (w.bounds.unit c (omega (arith, y.bounds.unit_less)) (omega arith) (added_none 1 c))
            by (inr f) (inr g) = x.stays C g f ∙ s.unit c (omega (arith, w.bounds.unit_less, y.bounds.unit_less))

        pub counted_then : Counted p m υ ts₂ os₂ b₂
        counted_then = record {
          trues_room = omega (arith, s.trues_room, w.trues.kept, y.trues.kept);
          opens_room = omega (arith, s.opens_room, w.opens.kept, y.opens.kept);
          numbers = numbers_then;
          conflict_most = omega (arith, s.conflict_most, w.bounds.conflict_less, y.bounds.conflict_less);
          conflict = y.bounds.conflict (w.bounds.conflict s.conflict);
          unit_most = omega (arith, s.unit_most, w.bounds.unit_less, y.bounds.unit_less);
          unit = unit_then;
        }

        pub rest_then : Rest (length m) ts os ts₂ os₂
        rest_then = record {
          trues = moved_rest (length m) 0 0 _ ts₁ ts₂ (past_opp 0) (past_opp 0) y.trues ∙ moved_rest (length m) _ _ _ ts ts₁ (past_own more.trues) (past_own less.trues) w.trues;
          opens = moved_rest (length m) _ _ _ os₁ os₂ (past_opp more.opens) (past_opp less.opens) y.opens ∙ moved_rest (length m) _ _ _ os os₁ (past_own more.opens) (past_own less.opens) w.opens;
        }

-- ---- as lists: the numbers of the clauses, and then what stays
front : (f : List ℤ → ℕ) (m : List (List ℤ)) (xs : List ℕ) → length m ≤ length xs → ((c : ℕ) → c < length m → get_or xs c 0 ≡ f (get_or m c [])) → xs ≡ map f m ++ drop (length m) xs
front f [] xs h said = refl
front f (C ∷ m) [] h said = absurd (omega arith)
front f (C ∷ m) (x ∷ xs) h said = ap₂ (λ (n : ℕ) (ns : List ℕ). n ∷ ns) (said 0 (omega arith)) (front f m xs (omega arith) (λ c k. said (suc c) (omega arith)))

laid : (f : List ℤ → ℕ) (m : List (List ℤ)) (xs xs₀ : List ℕ) → length m ≤ length xs → ((c : ℕ) → c < length m → get_or xs c 0 ≡ f (get_or m c [])) → drop (length m) xs ≡ drop (length m) xs₀ → xs ≡ map f m ++ drop (length (map f m)) xs₀
laid f m xs xs₀ h said rest = front f m xs h said ∙ rw (length-map m f, rest)

module _ (p : List ℤ) (m : List (List ℤ)) (ρ : Assignment) (ts₀ os₀ ts os : List ℕ) (b : Bounds) (s : Counted p m ρ ts os b) (r : Rest (length m) ts₀ os₀ ts os) where
  pub trues_laid : ts ≡ map (trues ρ) m ++ drop (length (map (trues ρ) m)) ts₀
  trues_laid = laid (trues ρ) m ts ts₀ s.trues_room (λ c k. (s.numbers c k).0) r.trues

  pub opens_laid : os ≡ map (opens p ρ) m ++ drop (length (map (opens p ρ) m)) os₀
  opens_laid = laid (opens p ρ) m os os₀ s.opens_room (λ c k. (s.numbers c k).1) r.opens

-- ---- at the start: fresh numbers, and bounds that say nothing
pub counted_start : (p : List ℤ) (m : List (List ℤ)) (ρ : Assignment) (st : ℤ → ℕ) (ts₀ os₀ ts os : List ℕ) → ((C : List ℤ) → In C m → (x : ℤ) → In x C → Sorted p ρ st x) → Filled st m ts₀ os₀ ts os
    → (b : Bounds) → b.conflict ≡ 0 → b.unit ≡ 0 → Counted p m ρ ts os b
counted_start p m ρ st ts₀ os₀ ts os sorted f b z w = record {
  trues_room = f.trues_room;
  opens_room = f.opens_room;
  numbers = λ c h.
      let n = numbers_mean p ρ st (get_or m c []) (λ x i. sorted (get_or m c []) (in_at m c [] h) x i) in
      let s = f.said c h in
      (s.0 ∙ n.0, s.1 ∙ n.1);
  conflict_most = omega arith;
  conflict = λ c h e. omega arith;
  unit_most = omega arith;
  unit = λ c h. absurd (omega arith);
}

-- ---- the looks: the least clause in conflict is the rules' own, and the bound may rise to it
module _ (p : List ℤ) (m : List (List ℤ)) (ρ : Assignment) (ts os : List ℕ) (b : Bounds) (s : Counted p m ρ ts os b) where
  means : (c : ℕ) → c < length m → key_at ts os c ≡ key p ρ (get_or m c [])
  means c h = let n = s.numbers c h in rw (n.0, n.1)

  pub conflict_found : (r : ℕ) → Least ts os b.conflict (length m) 0 r → lowest (in_conflict p ρ) 0 m ≡ Some r
  conflict_found r l = conflict_least p ρ m ts os means r l.within l.found (none_all ts os b.conflict r 0 s.conflict l.others)

  pub conflict_absent : NoneFrom ts os b.conflict (length m) 0 → lowest (in_conflict p ρ) 0 m ≡ None
  conflict_absent n = conflict_none p ρ m ts os means (none_all ts os b.conflict (length m) 0 s.conflict n)

  -- none from the bound to r has the key
  pub conflict_raised : (r : ℕ) → r ≤ length m → NoneFrom ts os b.conflict r 0 → (b' : Bounds) → b'.conflict ≡ r → b'.unit ≡ b.unit → Counted p m ρ ts os b'
  conflict_raised r h n b' c u = record {
    trues_room = s.trues_room;
    opens_room = s.opens_room;
    numbers = s.numbers;
    conflict_most = omega arith;
    conflict = λ k l. none_all ts os b.conflict r 0 s.conflict n k (omega arith);
    unit_most = omega (arith, s.unit_most);
    unit = λ k l. s.unit k (omega arith);
  }

  -- a clause of another key is no unit clause
  pub unit_passed : (k : ℕ) → k < length m → (key_at ts os k ≡ 1 → ⊥) → AllOnce m → is_unit p ρ (get_or m k []) ≡ false
  unit_passed k h n once = to_false _ (λ u. n (let z = unit_key p ρ (get_or m k []) _ (once (get_or m k []) (in_at m k [] h)).once u in omega (arith, (s.numbers k h).0, (s.numbers k h).1)))
