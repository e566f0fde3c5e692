-- What checked input gives: an accepted block has a bound prefix and parts that are ready; a record that row 12 lets pass names each of its
-- variables once, and its entries' literals are the first words of the buffer.
use Rattle.std.specs.Prelude.{◌≡◌, refl, List, ℕ, ◌≤◌, ℤ, length, take, false}
use Rattle.std.proofs.Common.{ap}
use Rattle.formula.specs.Limits.{Limits, limits}
use Rattle.formula.specs.Laws.Named.{known_up}
use Rattle.theory.specs.Record.{literals, among, true_in}
use Rattle.record.specs.Trail.{Trail, record_of}
use Rattle.record.specs.Inner.Ready.{Kept, formula, Binds, Bound, Ready, Room, OnBuffers, OnBlock, HeldOn}
use Rattle.record.specs.Inner.Tables.{Written}
use Rattle.record.proofs.Laws.Records.{kept_good, kept_room, record_literals}
use Rattle.formula.specs.Formula.{variables_of, prefix_of, ends_of, literals_of, formula_of}
use Rattle.formula.specs.Block.{refusal}
use Rattle.formula.specs.Proper.{Proper}
use Rattle.record.specs.Check.{bad_record}
use Rattle.formula.specs.Laws.Accepted as block

module _ (p : List ℤ) (t : Trail) (n : ℕ) (kept : Kept p t n) where
  pub kept_literals_lem : literals (record_of t n) ≡ take n t.lits
  kept_literals_lem = record_literals t n (kept_room kept)

  pub kept_written : length p ≤ limits.variables → Written t.lits n
  kept_written few =
      let good = kept_good kept in
      record {
        room = (kept_room kept).lits;
        named = known_up (length p) (take n t.lits) limits.variables few (rw (← kept_literals_lem) good.named);
        once = rw (← kept_literals_lem) good.once;
      }

  -- the two ways to say which literals are true are one
  pub kept_true : true_in (record_of t n) ≡ among (take n t.lits)
  kept_true = ap among kept_literals_lem

module _ (L : Limits) (b : List ℤ) (h : refusal L b ≡ 0) where
  -- the prefix has V words, and binds that many variables
  pub prefix_length : length (prefix_of b) ≡ variables_of b
  prefix_length = block.prefix_length (block.accepted L b h)

  pub prefix_few : length (prefix_of b) ≤ L.variables
  prefix_few = rw prefix_length (block.variables_most (block.accepted L b h))

  pub accepted_binds : Binds (prefix_of b)
  accepted_binds =
      let a = block.accepted L b h in
      record { named = rw prefix_length a.known; once = a.once }

  pub accepted_proper : Proper (formula_of b)
  accepted_proper = block.proper L b h

-- ---- what the rules' code asks of the parts
module _ (b : List ℤ) (h : refusal limits b ≡ 0) where
  pub accepted_bound : Bound (prefix_of b)
  accepted_bound = record { room = prefix_few limits b h; binds = accepted_binds limits b h }

  pub accepted_ready : Ready (prefix_of b) (ends_of b) (literals_of b)
  accepted_ready =
      let a = block.accepted limits b h in
      record { prefix = accepted_bound; ends = rw (block.literals_length a) a.ends; named = rw (prefix_length limits b h) a.literals; single = a.single }

-- the formula is that of the parts
pub formula_is : (b : List ℤ) {p es ls : List ℤ} → p ≡ prefix_of b → es ≡ ends_of b → ls ≡ literals_of b → formula_of b ≡ formula p es ls
unfolding formula_of
formula_is b e f g = rw (e, f, g)

-- ---- from door to door: row 12 asked, a record that passes it, and its literals alone
module _ {L : Limits} (b : List ℤ) (t : Trail) where
  pub buffers_room : OnBuffers L b t → {p : List ℤ} → p ≡ prefix_of b → Room (length p) t
  buffers_room o e = rw (e, prefix_length L b o.block) o.room

  pub on_block : (n : ℕ) → OnBuffers L b t → bad_record (prefix_of b) t n ≡ false → OnBlock L b t n
  on_block n o e = record { block = o.block; kept = record { prefix = accepted_binds L b o.block; room = buffers_room o refl; good = e } }

pub held_on : (b : List ℤ) (t : Trail) (n : ℕ) → OnBlock limits b t n → HeldOn b t.lits n
held_on b t n o = record { block = o.block; written = kept_written (prefix_of b) t n o.kept (prefix_few limits b o.block) }
