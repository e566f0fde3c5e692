-- What the theory of the rules asks of a formula. An accepted block's formula is so.
use Rattle.std.specs.Prelude.{◌≡◌, false, pos}
use Rattle.words.specs.Lists.{any}
use Rattle.words.specs.Words.{mem}
use Rattle.formula.specs.Formula.{Formula}
use Rattle.formula.specs.Block.{twice, both_signs}

pub record Proper (F : Formula) : Type 0 where
  -- no prefix word is 0, and no variable stands twice in the prefix
  pub named : mem (pos 0) F.prefix ≡ false
  pub once : twice F.prefix ≡ false
  -- no clause has both signs of a variable
  pub plain : any both_signs F.clauses ≡ false
