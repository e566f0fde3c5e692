-- Ends in order: the first is not below where its clause begins nor past the words, and those after it are in order from there. By formula's law, at the first end.
use Rattle.std.specs.Prelude.{◌≡◌, ◌≤◌, false, List, ◌∷◌, ℕ, ℤ, nat_abs}
use Rattle.std.proofs.Common.{arith}
use Rattle.formula.specs.Block.{bad_ends}
use Rattle.formula.specs.Laws.Ends.{good_end}

pub record Cut (total from end : ℕ) (others : List ℤ) : Type 0 where
  pub rises : from ≤ end
  pub fits : end ≤ total
  pub rest : bad_ends total end others ≡ false

pub cut : {total from end : ℕ} {es : List ℤ} {e : ℤ} {others : List ℤ} → bad_ends total from es ≡ false → es ≡ e ∷ others → end ≡ nat_abs e → Cut total from end others
cut {total} {from} {end} {es} {e} {others} good is at =
    let g = good_end total from (e ∷ others) 0 (rw is at good) (omega arith) in
    rw at (record { rises = g.rises; fits = g.fits; rest = g.rest })
