-- The start of a counted search: the tables that are filled are those of the block and of the record.
use Rattle.std.specs.Prelude.{ℕ, ◌≤◌, ◌≡◌, refl, length, take}
use Rattle.std.proofs.Common.{◌∙◌, arith}
use mathlib.Core.List.{List, map}
use Rattle.std.proofs.Math.IntN.{ℤ}
use Rattle.std.proofs.Math.ListN.{drop}
use Rattle.std.proofs.lemmas.List.{length-map}
use Rattle.std.proofs.Math.Seq.{take-length}
use Rattle.formula.specs.Limits.{limits}
use Rattle.formula.specs.Formula.{prefix_of, ends_of, literals_of, clauses_from, formula_of}
use Rattle.formula.specs.Block.{refusal}
use Rattle.formula.specs.Laws.Clauses.{clauses_in}
use Rattle.formula.specs.Laws.Named.{in_named, known_up}
use Rattle.theory.specs.Record.{among}
use Rattle.tables.specs.Inner.ByLiteral.{status_in, Statuses}
use Rattle.record.specs.Inner.Ready.{Bound}
use Rattle.record.specs.Inner.Tables.{Values, Quantifiers, Written}
use Rattle.tables.specs.Inner.Levels.{Levels}
use Rattle.record.proofs.Laws.Accepted.{accepted_bound, held_on}
use Rattle.rules.proofs.Laws.ClausesReady.{sorts, once_consistent}
use Rattle.memory.specs.Memory.{Memory}
use Rattle.counted.specs.Counted.{laid}
use Rattle.counted.specs.Inner.Index.{Few, Indexed}
use Rattle.counted.specs.Inner.Numbers.{Fillable, Filled}
use Rattle.counted.specs.Inner.Standing.{clauses_of, Standing, Roomy}
use Rattle.counted.specs.Inner.Search.{SearchedTo}
use Rattle.counted.proofs.Laws.Checked.{ready, few, ends_length}
use Rattle.counted.proofs.Laws.State.{counted_start}
use Rattle.search.specs.declared.searches.Searched.{Searched}

-- ---- what the fillings ask for
module _ (b : List ℤ) (h : refusal limits b ≡ 0) where
  pub prefix_bound : {p : List ℤ} → p ≡ prefix_of b → Bound p
  prefix_bound e = rw e (accepted_bound b h)

  pub prefix_written : {p : List ℤ} → p ≡ prefix_of b → Written p (length p)
  prefix_written {p} e =
      let k = prefix_bound e in
      record {
        room = omega arith;
        named = rw (take-length p) (known_up (length p) p limits.variables k.room k.binds.named);
        once = rw (take-length p) k.binds.once;
      }

  pub quantifiers_are : {p : List ℤ} (q : List ℕ) → p ≡ prefix_of b → Values (among (take (length p) p)) q → Quantifiers (prefix_of b) q
  quantifiers_are {p} q e v = rw (← e) (rw (take-length p) at v)

  pub clauses_few : {es ls : List ℤ} → es ≡ ends_of b → ls ≡ literals_of b → Few es ls
  clauses_few e f = rw (e, f) (few b h)

module _ (b : List ℤ) (m : Memory) (n : ℕ) (ts os index : List ℕ) (x : Roomy b m n ts os index) where
  pub index_long : {ls : List ℤ} → ls ≡ literals_of b → length ls ≤ length index
  index_long f = rw f x.index_room

  pub numbers_lent : {es ls : List ℤ} → es ≡ ends_of b → ls ≡ literals_of b → Fillable es ls ts os
  numbers_lent e f =
      let k = ends_length b x.on.on.block in
      rw (e, f) (record { few = few b x.on.on.block; trues_room = omega (arith, k, x.trues_room); opens_room = omega (arith, k, x.opens_room) })

  module _
      {p es ls : List ℤ} (ep : p ≡ prefix_of b) (ee : es ≡ ends_of b) (el : ls ≡ literals_of b)
      (levels quantifiers values : List ℕ) {statuses stops index' ts' os' : List ℕ}
      (told : Levels (prefix_of b) levels)
      (quantified : Values (among (take (length p) p)) quantifiers)
      (valued : Values (among (take n m.trail.lits)) values)
      (sorted : Statuses p values statuses)
      (entered : Indexed ls (clauses_from ls 0 es) stops index index')
      (counts : Filled (status_in statuses) (clauses_from ls 0 es) ts os ts' os')
    where
      filled_so : Filled (status_in statuses) (clauses_of b) ts os ts' os'
      filled_so = rw (ee, el) at counts

      pub begins : Standing b m n levels quantifiers stops index' statuses ts' os' (record { conflict = 0; unit = 0 })
      begins =
          let block = x.on.on.block in
          let w = (held_on b m.trail n x.on.on).written in
          let s : Statuses (prefix_of b) values statuses = rw ep at sorted in
          let so = sorts (prefix_of b) (accepted_bound b block) (among (take n m.trail.lits)) values valued (once_consistent (take n m.trail.lits) w.once) statuses s in
          record {
            on = x.on;
            tables = record { told = told; quantified = quantifiers_are b block quantifiers ep quantified; indexed = (rw (ee, el) at entered).indexed };
            now_set = record {
              long = s.beyond.long;
              sorts = so;
              counted = counted_start (prefix_of b) (clauses_of b) (among (take n m.trail.lits)) (status_in statuses) ts os ts' os' (λ C i y j. so y (in_named (length (prefix_of b)) (literals_of b) (ready b block).named (clauses_in (literals_of b) 0 (ends_of b) i j))) filled_so (record { conflict = 0; unit = 0 }) refl refl;
            };
          }

      -- and what the search leaves is told of the buffers as they came
      pub ends_so : {budget : ℕ} {preferred : List ℤ} {m' : Memory} {r : Searched} {ts'' os'' : List ℕ} → SearchedTo b m n budget preferred ts' os' m' r ts'' os'' → SearchedTo b m n budget preferred ts os m' r ts'' os''
      unfolding formula_of
      ends_so s = record {
        led = s.led;
        tells = s.tells;
        numbers = record {
          trues = s.numbers.trues ∙ same _ ts' ts filled_so.rest.trues;
          opens = s.numbers.opens ∙ same _ os' os filled_so.rest.opens;
        };
      }
        where
          same : (f : List ℤ → ℕ) (xs ys : List ℕ) → drop (length (clauses_of b)) xs ≡ drop (length (clauses_of b)) ys → laid (map f (clauses_of b)) xs ≡ laid (map f (clauses_of b)) ys
          same f xs ys e = rw (length-map (clauses_of b) f, e)

      pub index_so : drop (length (literals_of b)) index' ≡ drop (length (literals_of b)) index
      index_so = rw el at entered.rest
