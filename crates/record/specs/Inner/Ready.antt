-- Checked input: what the guard of a call has shown when a rule is looked for. The parts of an accepted block (which passes its rows), and a record
-- that passes rows 11 and 12.
use Rattle.std.specs.Prelude.{ℕ, ◌≤◌, ◌≡◌, ◌⊎◌, true, false, List, ℤ, nat_abs, length}
use Rattle.words.specs.Lists.{any}
use Rattle.formula.specs.Limits.{Limits, limits}
use Rattle.formula.specs.Formula.{Formula, variables_of, prefix_of, clauses_from}
use Rattle.formula.specs.Block.{no_variable, twice, bad_ends, repeats, refusal}
use Rattle.theory.specs.Record.{Assignment}
use Rattle.theory.specs.Tests.{is_open}
use Rattle.record.specs.Trail.{Trail}
use Rattle.record.specs.Search.{Search}
use Rattle.record.specs.Check.{bad_record}
use Rattle.record.specs.Inner.Tables.{Written}

-- ---- the block's parts
-- the formula of a prefix, clause ends and literal words
abbrev pub formula : List ℤ → List ℤ → List ℤ → Formula
formula p es ls = record { prefix = p; clauses = clauses_from ls 0 es }

-- a prefix of n words binds the variables 1 to n, each once
pub record Binds (p : List ℤ) : Type 0 where
  pub named : any (no_variable (length p)) p ≡ false
  pub once : twice p ≡ false

-- and the tables have a place for each of them
pub record Bound (p : List ℤ) : Type 0 where
  pub room : length p ≤ limits.variables
  pub binds : Binds p

pub record Ready (p es ls : List ℤ) : Type 0 where
  pub prefix : Bound p
  pub ends : bad_ends (length ls) 0 es ≡ false
  pub named : any (no_variable (length p)) ls ≡ false
  pub single : any repeats (clauses_from ls 0 es) ≡ false

-- ---- the buffers and the record
-- both buffers have n places
pub record Room (n : ℕ) (t : Trail) : Type 0 where
  pub lits : n ≤ length t.lits
  pub kinds : n ≤ length t.kinds

pub record Kept (p : List ℤ) (t : Trail) (n : ℕ) : Type 0 where
  pub prefix : Binds p
  pub room : Room (length p) t
  pub good : bad_record p t n ≡ false

abbrev pub KeptIn : List ℤ → Search → Type 0
KeptIn p s = Kept p s.trail s.count

-- ---- the doors, with the block itself: its rows and 11, then 12, and then only which literals are true, with no kinds
pub record OnBuffers (L : Limits) (b : List ℤ) (t : Trail) : Type 0 where
  pub block : refusal L b ≡ 0
  pub room : Room (variables_of b) t

pub record OnBlock (L : Limits) (b : List ℤ) (t : Trail) (n : ℕ) : Type 0 where
  pub block : refusal L b ≡ 0
  pub kept : Kept (prefix_of b) t n

pub record HeldOn (b ls : List ℤ) (n : ℕ) : Type 0 where
  pub block : refusal limits b ≡ 0
  pub written : Written ls n

-- a proposal that Decide may take: 0, or an open literal
abbrev pub Permitted : List ℤ → Assignment → ℤ → Type 0
Permitted p ρ l = (nat_abs l ≡ 0) ⊎ (is_open p ρ l ≡ true)
