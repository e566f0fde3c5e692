-- [cases] The cases, written by hand from docs/SPEC.md: opened at revision 0, the calls, and what is said of each.
use Rattle.std.specs.Prelude.{Bool, true, false, List, [], ◌∷◌, ℕ, zero, suc, ◌+◌, ℤ, pos, neg_ℤ}
use Rattle.record.specs.declared.rule.State.{State}
use Rattle.record.specs.declared.rule.State.TheVariants.{Open, Valid, Unsat}

-- a step at a revision with a proposal; a run at a revision, with a budget and preferences; a page from a start, with a budget, on an output
pub data Asked : Type 0 where
  step : ℕ → ℤ → Asked
  run : ℕ → ℕ → List ℤ → Asked
  page : ℕ → ℕ → List ℕ → Asked

-- what is said of a call: the rule that a step took with the literal that it wrote, and the number of the clause that decided it, plus one, if one
-- did; a run's steps, the last literal of the record, and the reason; a page's next, entries, paused or not, and output; or the number that the
-- call was refused with
pub data Said : Type 0 where
  decide monotone backtrack_forall : ℤ → Said
  unit backtrack_exists : ℤ → ℕ → Said
  fail : ℕ → Said
  succeed : Said
  ran : ℕ → ℤ → ℕ → Said
  listed : ℕ → ℕ → Bool → List ℕ → Said
  refused : ℕ → Said

-- opened at revision 0; each call, and what is said of it (of the opening too, where that is refused); how the session stands
-- after them, open where none was opened, and what the reasons are then, none where none was opened
pub record Case : Type 0 where
  pub block : List ℤ
  pub calls : List Asked
  pub said : List Said
  pub state : State
  pub reasons : List ℕ

abbrev neg : ℕ → ℤ
neg n = neg_ℤ (pos n)

-- proposals 0: n steps from revision r
unfoldable pub all_0 : ℕ → ℕ → List Asked
all_0 r zero = []
all_0 r (suc n) = step r (pos 0) ∷ all_0 (r + 1) n

-- source example 1
unfoldable pub block_a : List ℤ
block_a = pos 4 ∷ pos 5 ∷ pos 13 ∷ pos 6 ∷ pos 10 ∷ pos 15 ∷ pos 1 ∷ neg 2 ∷ pos 3 ∷ pos 4 ∷ pos 3 ∷ pos 5 ∷ pos 7 ∷ pos 10 ∷ pos 13 ∷ neg 1 ∷ neg 2 ∷ pos 3 ∷ neg 2 ∷ neg 3 ∷ pos 3 ∷ pos 4 ∷ pos 1 ∷ neg 2 ∷ neg 4 ∷ pos 2 ∷ pos 3 ∷ neg 4 ∷ []

-- [case.a] The clauses are 0 {-1,-2,3}, 1 {-2,-3}, 2 {3,4}, 3 {1,-2,-4}, 4 {2,3,-4}, and a reason is one more. After 1 and 2 only 3 is left of clause
-- 0: Unit 3, by 1. Clause 1 is then in conflict, and no lower one is: 2. After -1 and 2 clause 0 is true, and only -3 is left of clause 1: 2. Then only 4
-- is left of clause 2: 3. Clause 3 is then in conflict, the first three being true: 4. The entries -1 and 2 have no reason, -3 and 4 have their units'
unfoldable pub case_a : Case
case_a = record {
  block = block_a;
  calls = all_0 0 8;
  said = decide (pos 1) ∷ decide (pos 2) ∷ unit (pos 3) 1 ∷ backtrack_exists (neg 1) 2 ∷ decide (pos 2) ∷ unit (neg 3) 2 ∷ unit (pos 4) 3 ∷ fail 4 ∷ [];
  state = Unsat;
  reasons = 0 ∷ 0 ∷ 2 ∷ 3 ∷ [];
}

-- [case.a.monotone]
unfoldable pub case_a_monotone : Case
case_a_monotone = record {
  block = block_a;
  calls = step 0 (pos 1) ∷ step 1 (neg 2) ∷ step 2 (pos 0) ∷ [];
  said = decide (pos 1) ∷ decide (neg 2) ∷ monotone (pos 3) ∷ [];
  state = Open;
  reasons = 0 ∷ 0 ∷ 0 ∷ 0 ∷ [];
}

-- [case.b]
unfoldable pub case_b : Case
case_b = record {
  block = pos 2 ∷ pos 2 ∷ pos 4 ∷ pos 6 ∷ pos 8 ∷ pos 10 ∷ neg 1 ∷ pos 2 ∷ pos 2 ∷ pos 4 ∷ pos 2 ∷ neg 1 ∷ neg 2 ∷ pos 1 ∷ [];
  calls = all_0 0 5;
  said = decide (pos 1) ∷ unit (pos 2) 1 ∷ backtrack_forall (neg 1) ∷ unit (neg 2) 2 ∷ succeed ∷ [];
  state = Valid;
  reasons = 0 ∷ 2 ∷ [];
}

-- [case.c]
unfoldable pub case_c : Case
case_c = record {
  block = pos 2 ∷ pos 2 ∷ pos 4 ∷ pos 6 ∷ pos 8 ∷ pos 10 ∷ pos 1 ∷ neg 2 ∷ pos 2 ∷ pos 4 ∷ pos 2 ∷ neg 1 ∷ neg 2 ∷ pos 1 ∷ [];
  calls = [];
  said = refused 7 ∷ [];
  state = Open;
  reasons = [];
}

-- [case.d]
unfoldable pub case_d : Case
case_d = record {
  block = pos 3 ∷ pos 2 ∷ pos 4 ∷ pos 6 ∷ pos 9 ∷ pos 11 ∷ pos 1 ∷ neg 2 ∷ pos 3 ∷ pos 2 ∷ pos 4 ∷ pos 1 ∷ neg 2 ∷ neg 1 ∷ pos 2 ∷ [];
  calls = all_0 0 2;
  said = unit (pos 1) 1 ∷ fail 2 ∷ [];
  state = Unsat;
  reasons = 1 ∷ 0 ∷ 0 ∷ [];
}

-- [case.e]
unfoldable pub case_e : Case
case_e = record {
  block = pos 0 ∷ pos 0 ∷ pos 0 ∷ pos 6 ∷ pos 6 ∷ pos 6 ∷ [];
  calls = all_0 0 1;
  said = succeed ∷ [];
  state = Valid;
  reasons = [];
}

-- [case.f]
unfoldable pub case_f : Case
case_f = record {
  block = pos 0 ∷ pos 1 ∷ pos 0 ∷ pos 6 ∷ pos 6 ∷ pos 7 ∷ pos 0 ∷ [];
  calls = all_0 0 1;
  said = fail 1 ∷ [];
  state = Unsat;
  reasons = [];
}

unfoldable pub block_g : List ℤ
block_g = pos 4 ∷ pos 3 ∷ pos 6 ∷ pos 6 ∷ pos 10 ∷ pos 13 ∷ pos 1 ∷ pos 2 ∷ neg 3 ∷ pos 4 ∷ pos 2 ∷ pos 4 ∷ pos 6 ∷ pos 1 ∷ pos 2 ∷ neg 3 ∷ pos 4 ∷ pos 3 ∷ neg 4 ∷ []

-- [case.g]
unfoldable pub case_g : Case
case_g = record {
  block = block_g;
  calls = page 0 100 (9 ∷ 9 ∷ 9 ∷ 9 ∷ 9 ∷ 9 ∷ 9 ∷ 9 ∷ []) ∷ page 0 100 (9 ∷ 9 ∷ 9 ∷ 9 ∷ []) ∷ [];
  said = listed 4 3 false (1 ∷ 1 ∷ 2 ∷ 1 ∷ 3 ∷ 2 ∷ 9 ∷ 9 ∷ []) ∷ listed 3 2 false (1 ∷ 1 ∷ 2 ∷ 1 ∷ []) ∷ [];
  state = Open;
  reasons = 0 ∷ 0 ∷ 0 ∷ 0 ∷ [];
}

-- [case.h]
unfoldable pub case_h : Case
case_h = record {
  block = block_g;
  calls = page 0 0 (9 ∷ 9 ∷ []) ∷ page 4 0 (9 ∷ 9 ∷ []) ∷ [];
  said = listed 0 0 true (9 ∷ 9 ∷ []) ∷ listed 4 0 false (9 ∷ 9 ∷ []) ∷ [];
  state = Open;
  reasons = 0 ∷ 0 ∷ 0 ∷ 0 ∷ [];
}

-- [case.i]
unfoldable pub case_i : Case
case_i = record {
  block = pos 2 ∷ pos 2 ∷ pos 4 ∷ pos 6 ∷ pos 8 ∷ pos 10 ∷ neg 1 ∷ pos 2 ∷ pos 2 ∷ pos 4 ∷ pos 2 ∷ pos 1 ∷ neg 2 ∷ neg 1 ∷ [];
  calls = all_0 0 5;
  said = decide (pos 1) ∷ unit (neg 2) 2 ∷ backtrack_forall (neg 1) ∷ unit (pos 2) 1 ∷ succeed ∷ [];
  state = Valid;
  reasons = 0 ∷ 1 ∷ [];
}

-- [case.j]
unfoldable pub case_j : Case
case_j = record {
  block = pos 2 ∷ pos 1 ∷ pos 1 ∷ pos 6 ∷ pos 8 ∷ pos 9 ∷ neg 1 ∷ pos 2 ∷ pos 1 ∷ pos 1 ∷ [];
  calls = all_0 0 1;
  said = fail 1 ∷ [];
  state = Unsat;
  reasons = 0 ∷ 0 ∷ [];
}

-- [case.k]
unfoldable pub case_k : Case
case_k = record {
  block = block_a;
  calls = step 0 (pos 3) ∷ step 0 (pos 1) ∷ step 0 (neg 2) ∷ step 1 (neg 2) ∷ [];
  said = refused 17 ∷ decide (pos 1) ∷ refused 14 ∷ decide (neg 2) ∷ [];
  state = Open;
  reasons = 0 ∷ 0 ∷ 0 ∷ 0 ∷ [];
}

-- [case.l] as a literal word; as a proposal, and as a preference
unfoldable pub least_word : ℤ
least_word = neg 2147483648

unfoldable pub case_l : Case
case_l = record {
  block = pos 1 ∷ pos 2 ∷ pos 2 ∷ pos 6 ∷ pos 7 ∷ pos 9 ∷ pos 1 ∷ pos 1 ∷ pos 2 ∷ pos 1 ∷ least_word ∷ [];
  calls = [];
  said = refused 9 ∷ [];
  state = Open;
  reasons = [];
}

unfoldable pub case_l_calls : Case
case_l_calls = record {
  block = block_a;
  calls = step 0 least_word ∷ run 0 1 (least_word ∷ neg 1 ∷ []) ∷ [];
  said = refused 17 ∷ ran 1 (neg 1) 0 ∷ [];
  state = Open;
  reasons = 0 ∷ 0 ∷ 0 ∷ 0 ∷ [];
}

-- [case.m] the counts of a block with nothing after its header, and the refusal
unfoldable pub case_m : ℕ → ℕ → ℕ → ℕ → Case
case_m v c t n = record {
  block = pos v ∷ pos c ∷ pos t ∷ pos 6 ∷ pos 1030 ∷ pos 5126 ∷ [];
  calls = [];
  said = refused n ∷ [];
  state = Open;
  reasons = [];
}

-- [case.n] prefix 1, 2 and clauses {1,1} {2,-1}: refused with 23
unfoldable pub case_n : Case
case_n = record {
  block = pos 2 ∷ pos 2 ∷ pos 4 ∷ pos 6 ∷ pos 8 ∷ pos 10 ∷ pos 1 ∷ pos 2 ∷ pos 2 ∷ pos 4 ∷ pos 1 ∷ pos 1 ∷ pos 2 ∷ neg 1 ∷ [];
  calls = [];
  said = refused 23 ∷ [];
  state = Open;
  reasons = [];
}

-- [case.o] prefix 1, 2 and clauses {1,1} {2,-2}: refused with 10, though the clause before repeats a literal
unfoldable pub case_o : Case
case_o = record {
  block = pos 2 ∷ pos 2 ∷ pos 4 ∷ pos 6 ∷ pos 8 ∷ pos 10 ∷ pos 1 ∷ pos 2 ∷ pos 2 ∷ pos 4 ∷ pos 1 ∷ pos 1 ∷ pos 2 ∷ neg 2 ∷ [];
  calls = [];
  said = refused 10 ∷ [];
  state = Open;
  reasons = [];
}

unfoldable pub table : List Case
table =
    case_a ∷ case_a_monotone ∷ case_b ∷ case_c ∷ case_d ∷ case_e ∷ case_f ∷ case_g ∷ case_h ∷ case_i ∷ case_j ∷ case_k ∷ case_l ∷ case_l_calls ∷ case_m 1024 4096 8192 4 ∷ case_m 1025 4096 8192 2 ∷ case_m 1024 4097 8192 2 ∷ case_m 1024 4096 8193 2 ∷ case_n ∷ case_o ∷ []
