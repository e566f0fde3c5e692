-- What one byte does to the reader's state and to the output. For any state and output.
use Rattle.std.specs.Prelude.{ℕ, suc, min, Bool, cond, List, ℤ}
use Rattle.words.specs.Outcomes.{Outcome, outcome}
use Rattle.grammar.specs.Machine.{alive, move, shift, events}
use Rattle.reader.specs.declared.Reader.{Reader}
use Rattle.reader.specs.Keep.{capped, keeps}

-- [text.count] bytes are counted up to this number, and no further
abbrev pub last_place : ℕ
last_place = 18446744073709551615

abbrev pub counted : Bool → ℕ → ℕ
counted taken at = cond taken (min (suc at) last_place) at

unfoldable pub byte_of : Reader → List ℤ → ℕ → Outcome (List ℤ) Reader
byte_of r o b =
    let k = keeps r.kept o (events (move r.state b).says r.number) in
    outcome (record {
      state = (move r.state b).to;
      number = capped (shift r.state b r.number);
      at = counted (alive (move r.state b).to) r.at;
      kept = k.answer;
    }) k.memory
