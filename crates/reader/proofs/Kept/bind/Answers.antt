-- What is not beyond without a minus is not with one.
use Rattle.std.specs.Prelude.{◌≡◌, Bool, true, false, ℕ, zero, suc, pos}
use Rattle.std.proofs.Common.{sym, ◌∙◌, arith}
use Rattle.std.proofs.lemmas.Bool.Decides.{nat_tests}
use Rattle.grammar.specs.Machine.{signed}
use Rattle.reader.specs.Keep.{beyond}
use Rattle.reader.proofs.Kept.bind.Goals as goal

small : (u : Bool) (n : ℕ) → beyond (pos n) ≡ false → beyond (signed u n) ≡ false
unfolding beyond
small false n h = h
small true zero h = grind (arith, nat_tests)
small true (suc n) h = grind (arith, nat_tests)

pub stored_word-requires : goal.stored_word-requires
stored_word-requires c h = small c.args.self.universal c.capped-number.result (sym c.is_beyond-beyond.ensures ∙ h)
