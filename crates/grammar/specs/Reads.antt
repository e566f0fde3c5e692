-- A text read from its first byte on: its tree, or the place of [row.27].
use Rattle.std.specs.Prelude.{cond, List, [], ◌∷◌, ℕ, suc}
use Rattle.grammar.specs.Grammar.{Text}
use Rattle.grammar.specs.declared.State.{State}
use Rattle.grammar.specs.Machine.{alive, fresh, move, start, trace}
use Rattle.grammar.specs.Events.{heard}

pub data Read : Type 0 where
  spelled : Text → Read
  misfit : ℕ → Read

-- how many bytes the machine takes before one after which no text goes on
unfoldable pub taken : State → List ℕ → ℕ
taken s [] = 0
taken s (b ∷ bs) = cond (alive (move s b).to) (suc (taken (move s b).to bs)) 0

unfoldable pub reads : List ℕ → Read
reads bs = let r = trace start 0 bs in cond (fresh r.last) (spelled (heard r.said).text) (misfit (taken start bs))
