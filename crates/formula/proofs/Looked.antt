-- Rows 10 and 23 clause by clause: the clauses that are left, after what was seen, give the row that all clauses give; no mark has the next stamp
-- yet.
use Rattle.std.proofs.Math.Bool.{or_assoc}
use Rattle.std.specs.Prelude.{◌≡◌, refl, Bool, true, false, cond, ◌||◌, List, [], ◌∷◌, ℕ, ◌+◌, ◌-◌, ◌<◌, ℤ, nat_abs, length, replicate, Ok, Err}
use Rattle.std.proofs.Common.{ap, arith}
use Rattle.std.proofs.lemmas.List.{length-replicate}
use Rattle.words.specs.declared.Refusal.{Refusal}
use Rattle.words.specs.Outcomes.{refused, by_row}
use Rattle.words.specs.Rows.{refusal_of}
use Rattle.words.specs.Lists.{In, here, there, any}
use Rattle.words.specs.Laws.Lists.{blank}
use Rattle.formula.specs.Limits.{limits}
use Rattle.formula.specs.Formula.{clauses_from}
use Rattle.formula.specs.Block.{both_signs, repeats}
use Rattle.formula.specs.Check.{checked_of}
use Rattle.formula.specs.Laws.Named.{named_part}
use Rattle.formula.specs.Inner.Named.{AllNamed}
use Rattle.formula.specs.Inner.Places.{literal_places}
use Rattle.formula.specs.Inner.Tables.{pair_of, pair_rows, Fresh}

-- the number of several clauses, some clause before them being seen to repeat a literal or not
abbrev pub pairs : Bool → List (List ℤ) → ℕ
pairs repeated cs = cond (any both_signs cs) 10 (cond (repeated || any repeats cs) 23 0)

pub record Looked (marks : List ℕ) (repeated : Bool) (count : ℕ) (left all : List (List ℤ)) : Type 0 where
  pub fresh : Fresh (count + 1) marks
  pub same : pairs repeated left ≡ pairs false all
  pub named : {c : List ℤ} → In c left → AllNamed limits.variables c
  pub few : count + length left ≡ length all

-- each clause is a part of the literal words
clauses_named : (ls : List ℤ) (from : ℕ) (es : List ℤ) → AllNamed limits.variables ls → {c : List ℤ} → In c (clauses_from ls from es) → AllNamed limits.variables c
unfolding clauses_from
clauses_named ls from [] a i = elim i [ ]
clauses_named ls from (e ∷ es) a (here is) = rw is (named_part limits.variables ls (nat_abs e - from) from a)
clauses_named ls from (e ∷ es) a (there i) = clauses_named ls (nat_abs e) es a i

pub begin : (ls es : List ℤ) → AllNamed limits.variables ls → {left : List (List ℤ)} → left ≡ clauses_from ls 0 es
    → Looked (replicate literal_places 0) false 0 left (clauses_from ls 0 es)
begin ls es a is =
    rw is
    (record {
      fresh = record { room = length-replicate {A = ℕ} literal_places 0; under = λ k. omega (arith, blank {A = ℕ} 0 literal_places k) };
      same = refl;
      named = λ i. clauses_named ls 0 es a i;
      few = omega arith;
    })

module _ {marks : List ℕ} {repeated : Bool} {count : ℕ} {left all : List (List ℤ)} (p : Looked marks repeated count left all) where
  pub end : left ≡ [] → (repeated ≡ true → refused 23 ≡ checked_of (refusal_of (pair_rows all))) × (repeated ≡ false → Ok tt ≡ checked_of (refusal_of (pair_rows all)))
  unfolding any checked_of
  end none = let e = rw none at p.same in (λ t. rw (← e, t), λ t. rw (← e, t))

  -- the next clause
  module _ {c : List ℤ} {rest : List (List ℤ)} (is : left ≡ c ∷ rest) where
    pub asked : AllNamed limits.variables c
    asked = p.named (rw is (here refl))

    pub room : count < length all
    room = omega (arith, p.few, ap length is)

    pub hit : (e : Refusal) → Err e ≡ pair_of c → Err e ≡ checked_of (refusal_of (pair_rows all))
    unfolding any checked_of
    hit e q = rw (← p.same, is) (by (both_signs c) (repeats c) q)
      where
        by : (a b : Bool) → Err e ≡ cond a (refused 10) (Ok b) → Err e ≡ checked_of (cond (a || any both_signs rest) 10 (cond (repeated || (b || any repeats rest)) 23 0))
        by true b q = let z : e ≡ by_row 10 = cc in rw z
        by false b q = absurd cc

    pub more : (again : Bool) → Ok again ≡ pair_of c → {marks' : List ℕ} → Fresh (count + 1 + 1) marks' → Looked marks' (repeated || again) (count + 1) rest all
    unfolding any
    more again q fresh =
        record {
          fresh = fresh;
          same = by (both_signs c) (repeats c) q (rw is at p.same);
          named = λ i. p.named (rw is (there i));
          few = omega (arith, p.few, ap length is);
        }
      where
        by : (a b : Bool) → Ok again ≡ cond a (refused 10) (Ok b) → cond (a || any both_signs rest) 10 (cond (repeated || (b || any repeats rest)) 23 0) ≡ pairs false all
            → cond (any both_signs rest) 10 (cond ((repeated || again) || any repeats rest) 23 0) ≡ pairs false all
        by true b q e = absurd cc
        by false b q e = let z : again ≡ b = cc in rw (z, or_assoc repeated b (any repeats rest)) e
