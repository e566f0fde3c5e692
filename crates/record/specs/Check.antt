-- Row 12: which records are broken.
use Rattle.std.specs.Prelude.{ℕ, Bool, ◌&&◌, ◌||◌, List, eqb, ltb, ℤ, length}
use Rattle.words.specs.Lists.{any}
use Rattle.formula.specs.Formula.{existential, universal}
use Rattle.formula.specs.Block.{no_variable, twice}
use Rattle.theory.specs.Record.{Entry, Record, literals}
use Rattle.record.specs.Trail.{Trail, record_of}

-- a kind that is none, or the other quantifier's [row.12.entry] [kinds]
abbrev pub bad_kind : List ℤ → Entry → Bool
bad_kind p e =
    ltb 2 e.kind
    || (eqb e.kind 1 && universal p e.literal)
    || (eqb e.kind 2 && existential p e.literal)

-- some entry is wrong: it names no variable, another one names the same, or its kind is wrong [row.12.entry]
unfoldable pub bad_entries : List ℤ → Record → Bool
bad_entries p r = any (no_variable (length p)) (literals r) || twice (literals r) || any (bad_kind p) r

-- more entries than variables, or a wrong one among them [row.12]
unfoldable pub bad_record : List ℤ → Trail → ℕ → Bool
bad_record p t n = ltb (length p) n || bad_entries p (record_of t n)
