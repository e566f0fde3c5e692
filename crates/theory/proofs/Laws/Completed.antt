-- What completes an ended record: an entry more for each variable of the first group that it leaves unassigned. They leave a clause in conflict
-- as it is, since none of them is in it; and with the record's own entries of level 0 they are the values that it shows.
use Rattle.std.specs.Prelude.{◌≡◌, false, ◌&&◌, ◌||◌, ◌<◌, ltb, eqb, pos, neg_ℤ, nat_abs}
use Rattle.std.proofs.Math.Path.{refl, sym, fun_ext}
use Rattle.std.proofs.Common.{◌∙◌, ltb→lt, take-append-drop}
use Rattle.std.proofs.Math.Logic.{inl, inr}
use Rattle.std.proofs.Math.Bool.{Bool, true}
use mathlib.Core.List.{List, [], ◌∷◌, ◌++◌}
use native.Mathlib.Omega.{arith}
use Rattle.std.proofs.Math.IntN.{ℤ}
use Rattle.words.specs.Laws.Bools.{clash, look, eq→T, and_l, and_r, and_i, or_e, or_l, or_r, bool_eq, eqb_ne}
use Rattle.words.specs.Lists.{In, here, there, all}
use Rattle.words.specs.Laws.Lists.{all_e, all_i, in_take, in_either}
use Rattle.words.specs.Words.{mem}
use Rattle.words.specs.Laws.Words.{mem_i, mem_e, mem_append, own_opposite}
use Rattle.formula.specs.Formula.{Formula, level, first_group}
use Rattle.formula.specs.Block.{twice, both_signs}
use Rattle.formula.specs.Laws.Prefix.{stands, stands_i, stands_e, level_var, other, once_in, twice_head, twice_tail, both_signs_lem, word_named}
use Rattle.formula.specs.Proper.{Proper}
use Rattle.theory.specs.Record.{Record, literals, Assignment, among, true_in, assigned}
use Rattle.theory.specs.Tests.{all_assigned}
use Rattle.theory.specs.Start.{suits, all_suit, Good, rest}
use Rattle.theory.specs.Witness.{group_of, rest_of, below, shown_true, signed_as, signed}
use Rattle.theory.proofs.Laws.Assignment.{assigned_var, assigned_other, literals_append, given_literals}
use Rattle.theory.specs.Grown.{put, after, given}
use Rattle.theory.proofs.Laws.Value.{rest_set, rest_e, rest_i}
use Rattle.theory.proofs.Laws.Tested.{dead_put}
use Rattle.theory.specs.Met.{Dead}
use Rattle.theory.proofs.Laws.Moves.{suits_stands}
use Rattle.theory.proofs.Laws.Below.{below_true, Fresh, no_more, one_more}
use Rattle.theory.proofs.Laws.Group.{group_level, rest_level, twice_take, signed_variable, signed_i, signed_e}

-- ---- the unassigned variables of a group, in a record of their own
module _ (ρ : Assignment) (C : List ℤ) where
  pub completing : List ℤ → Record
  completing g = given (signed (shown_true ρ C) (rest g ρ))

  -- they are fresh, with what τ assigns too, if that is what ρ assigns of the group
  fresh_from : (P g : List ℤ) → twice g ≡ false → ((x : ℤ) → In x g → In x P) → (τ : Assignment) → ((x : ℤ) → In x g → assigned τ x ≡ assigned ρ x) → Fresh P τ (completing g)
  unfolding completing rest signed given
  fresh_from P [] h i τ a = no_more
  fresh_from P (q ∷ g) h i τ a = elim (look (assigned ρ q)) [
    | inl b ↦ rw b (fresh_from P g (twice_tail q g h) (λ x j. i x (there j)) τ (λ x j. a x (there j)))
    | inr b ↦ rw b (one_more (stands_i (signed_as s q) (i q (here refl)) (signed_variable s q)) (assigned_var τ (signed_as s q) q (signed_variable s q) ∙ a q (here refl) ∙ b)
        (fresh_from P g (twice_tail q g h) (λ x j. i x (there j)) (put (signed_as s q) τ) (λ x j. assigned_other (signed_as s q) τ x (apart x j) ∙ a x (there j))))
  ]
    where
      s : ℤ → Bool
      s = shown_true ρ C

      apart : (x : ℤ) → In x g → eqb (nat_abs (signed_as s q)) (nat_abs x) ≡ false
      apart x j = eqb_ne _ _ (λ e. other q (twice_head q g h) j (sym (signed_variable s q) ∙ e))

  -- none of them is in C
  unassigned_out : both_signs C ≡ false → (q : ℤ) → 0 < nat_abs q → assigned ρ q ≡ false → In (signed_as (shown_true ρ C) q) C → ⊥
  unfolding shown_true
  unassigned_out plain q z u i = elim (look (mem (pos (nat_abs q)) C)) [
    | inl m ↦ let k = own_opposite (pos (nat_abs q)) (both_signs_lem C plain (pos (nat_abs q)) (mem_e (pos (nat_abs q)) C m) (rw (u, m) at i)) in omega arith
    | inr m ↦ clash (mem_i (rw (u, m) at i)) m
  ]

  -- so C stays in conflict
  dead_after : (P vs : List ℤ) (τ : Assignment) → ((x : ℤ) → In x vs → In x C → ⊥) → Dead P τ C → Dead P (after τ (given vs)) C
  unfolding after given
  dead_after P [] τ out d = d
  dead_after P (v ∷ vs) τ out d = dead_after P vs (put v τ) (λ x i. out x (there i)) (dead_put P C v τ (out v (here refl)) d)

literal_stands : (p : List ℤ) (r : Record) → all_suit p r ≡ true → (x : ℤ) → In x (literals r) → stands p x ≡ true
unfolding literals all_suit all
literal_stands p (e ∷ r) h x (here z) = rw z (suits_stands p e.kind e.literal (and_l (suits p e.kind e.literal) (all_suit p r) h))
literal_stands p (e ∷ r) h x (there i) = literal_stands p r (and_r (suits p e.kind e.literal) (all_suit p r) h) x i
literal_stands p [] h x x4 = elim x4 [ ]

given_low : (P vs : List ℤ) → ((x : ℤ) → In x vs → level P x ≡ 0) → below P 1 (given vs) ≡ given vs
unfolding below given
given_low P [] h = refl
given_low P (v ∷ vs) h = rw (h v (here refl), given_low P vs (λ x i. h x (there i)))

-- ---- a record and what completes it
abbrev pub completion : Formula → Record → List ℤ → Record
completion F r C = completing (true_in r) C (group_of F)

module _ (F : Formula) (ok : Proper F) (r : Record) (C : List ℤ) where
  in_group : {x : ℤ} → In x (group_of F) → In x F.prefix
  in_group i = in_take (first_group F.prefix) F.prefix i

  pub completion_fresh : Fresh F.prefix (true_in r) (completion F r C)
  completion_fresh = fresh_from (true_in r) C F.prefix (group_of F) (twice_take (first_group F.prefix) F.prefix ok.once) (λ x i. in_group i) (true_in r) (λ x i. refl)

  -- with everything assigned there is nothing to complete
  pub completion_none : all_assigned F.prefix (true_in r) ≡ true → completion F r C ≡ []
  unfolding completing all_assigned signed given
  completion_none f =
      let e = rest_set (group_of F) (true_in r) (all_i (assigned (true_in r)) (group_of F) (λ x i. all_e (assigned (true_in r)) F.prefix f (in_group i))) in rw e

  -- a clause in conflict stays so
  pub completion_dead : both_signs C ≡ false → Dead F.prefix (true_in r) C → Dead F.prefix (after (true_in r) (completion F r C)) C
  unfolding completing
  completion_dead plain d = dead_after (true_in r) C F.prefix (signed s (rest (group_of F) (true_in r))) (true_in r) out d
    where
      s : ℤ → Bool
      s = shown_true (true_in r) C

      out : (x : ℤ) → In x (signed s (rest (group_of F) (true_in r))) → In x C → ⊥
      out x i j =
          let (q, k, e) = signed_e s (rest (group_of F) (true_in r)) i in
          let (m, u) = rest_e (group_of F) (true_in r) k in
          unassigned_out (true_in r) C plain q (word_named ok q (in_group m)) u (rw e at j)

  -- it is of level 0
  pub completion_low : below F.prefix 1 (completion F r C) ≡ completion F r C
  unfolding completing
  completion_low = given_low F.prefix (signed s (rest (group_of F) (true_in r))) (λ x i. let (q, k, e) = signed_e s (rest (group_of F) (true_in r)) i in
      rw e (level_var F.prefix (signed_as s q) q (signed_variable s q) ∙ group_level F.prefix ok.once q (rest_e (group_of F) (true_in r) k).0))
    where
      s : ℤ → Bool
      s = shown_true (true_in r) C

  -- the record's entries of level 0 and these together are the values that it shows
  module _ (good : Good F r) where
    s : ℤ → Bool
    s = shown_true (true_in r) C

    -- the value of an assigned variable is the record's
    assigned_value : (q : ℤ) → assigned (true_in r) q ≡ true → true_in r (signed_as s q) ≡ true
    unfolding s shown_true assigned
    assigned_value q a = elim (look (true_in r (pos (nat_abs q)))) [
      | inl e ↦ rw (a, e) e
      | inr e ↦ let z : assigned (true_in r) (pos (nat_abs q)) ≡ true = assigned_var (true_in r) (pos (nat_abs q)) q refl ∙ a in rw (a, e) (rw e at z)
    ]

    own_value : (x q : ℤ) → nat_abs x ≡ nat_abs q → true_in r x ≡ true → x ≡ signed_as s q
    unfolding assigned
    own_value x q e h =
        let a : assigned (true_in r) q ≡ true = sym (assigned_var (true_in r) x q e) ∙ or_l (true_in r (neg_ℤ x)) h in
        once_in (literals r) good.distinct (mem_e x (literals r) h) (mem_e (signed_as s q) (literals r) (assigned_value q a)) (e ∙ sym (signed_variable s q))

    -- a literal of the completed record
    in_completed : (x : ℤ) → true_in (r ++ completion F r C) x ≡ (true_in r x || mem x (signed s (rest (group_of F) (true_in r))))
    unfolding completing s
    in_completed x = rw (literals_append r (completion F r C), given_literals (signed s (rest (group_of F) (true_in r))), mem_append x (literals r) (signed s (rest (group_of F) (true_in r))))

    -- at level 0 it is of a word of the group
    of_group : (x : ℤ) → true_in r x ≡ true → level F.prefix x < 1 → (q : ℤ) × In q (group_of F) × (nat_abs x ≡ nat_abs q)
    unfolding all_suit
    of_group x h l =
        let (q, i, e) = stands_e F.prefix x (literal_stands F.prefix r good.suited x (mem_e x (literals r) h)) in
        elim (in_either {x = q} (group_of F) (rest_of F) (rw (take-append-drop (first_group F.prefix) F.prefix) i)) [
          | inl j ↦ (q, j, e)
          | inr j ↦ let d = rest_level F.prefix ok.once q j in let z = level_var F.prefix x q e in absurd (omega arith)
        ]

    shown_in : (x : ℤ) → mem x (signed s (group_of F)) ≡ true → (true_in (r ++ completion F r C) x && ltb (level F.prefix x) 1) ≡ true
    shown_in x h =
        let (q, i, e) = signed_e s (group_of F) (mem_e x (signed s (group_of F)) h) in
        let z = level_var F.prefix (signed_as s q) q (signed_variable s q) ∙ group_level F.prefix ok.once q i in
        and_i (in_completed x ∙ rw e (elim (look (assigned (true_in r) q)) [
          | inl a ↦ or_l (mem (signed_as s q) (signed s (rest (group_of F) (true_in r)))) (assigned_value q a)
          | inr a ↦ or_r (true_in r (signed_as s q)) (mem_i (signed_i s (rest_i (group_of F) (true_in r) i a)))
        ])) (rw (e, z))

    in_shown : (x : ℤ) → (true_in (r ++ completion F r C) x && ltb (level F.prefix x) 1) ≡ true → mem x (signed s (group_of F)) ≡ true
    in_shown x h =
        let l = ltb→lt (level F.prefix x) 1 (eq→T (and_r (true_in (r ++ completion F r C) x) (ltb (level F.prefix x) 1) h)) in
        elim (or_e (true_in r x) (mem x (signed s (rest (group_of F) (true_in r)))) (sym (in_completed x) ∙ and_l (true_in (r ++ completion F r C) x) (ltb (level F.prefix x) 1) h)) [
          | inl k ↦ let (q, i, e) = of_group x k l in rw (own_value x q e k) (mem_i (signed_i s i))
          | inr k ↦ let (q, i, e) = signed_e s (rest (group_of F) (true_in r)) (mem_e x (signed s (rest (group_of F) (true_in r))) k) in rw e (mem_i (signed_i s (rest_e (group_of F) (true_in r) i).0))
        ]

    pub shown_among : among (signed (shown_true (true_in r) C) (group_of F)) ≡ true_in (below F.prefix 1 (r ++ completion F r C))
    unfolding s
    shown_among = fun_ext (λ x. bool_eq _ _ (shown_in x) (in_shown x) ∙ sym (below_true F.prefix 1 (r ++ completion F r C) x))
