-- [page] A page only works in the record buffers: what they held before it changes neither its answer nor its output. A search depends on its
-- record alone, and an opening's record is the same on all buffers that are long enough.
use Prim.Native.Nat.{ℕ, zero, suc, ◌-◌}
use Rattle.std.specs.Prelude.{◌≡◌, List, ℤ}
use Rattle.std.proofs.Math.Path.{refl, fun_ext}
use Rattle.std.proofs.Common.{ap}
use Rattle.words.specs.Outcomes.{unless, refused}
use Rattle.formula.specs.Formula.{formula_of}
use Rattle.formula.specs.Limits.{Limits}
use Rattle.record.specs.declared.rule.State.{State}
use Rattle.memory.specs.Memory.{record_places}
use Rattle.memory.specs.Refusals.{short}
use Rattle.listing.specs.Opening.{openings, opening_end}
use Rattle.listing.specs.Page.{PageMemory, page_refusal, paged, page_from, sheet_of, page_of}
use Rattle.listing.specs.Rows.{page_guarded, page_binds}
use Rattle.listing.proofs.Laws.Beyond.{same_end}
use Rattle.listing.specs.Pages.{SamePage}

-- two memories with the same output, of which both or none break row 11
module _ (L : Limits) (b : List ℤ) (m m' : PageMemory) (buffers : short b (record_places m.work) ≡ short b (record_places m'.work)) (output : m.output ≡ m'.output) (start : ℕ) where
  same_refusal : page_refusal L b m start ≡ page_refusal L b m' start
  unfolding page_refusal
  same_refusal = rw (buffers, output)

  module _ (preferred : List ℤ) (budget : ℕ) where
    same_sheet : page_refusal L b m start ≡ 0 → sheet_of (formula_of b) m start preferred budget ≡ sheet_of (formula_of b) m' start preferred budget
    same_sheet e =
        let g = page_guarded L b m start e in
        let g' = page_guarded L b m' start (rw same_refusal at e) in
        let F = formula_of b in
        let z : opening_end F preferred budget m.work ≡ opening_end F preferred budget m'.work = fun_ext (λ n. same_end F (page_binds L b m start g) preferred budget m.work g.lent n m'.work g'.lent) in
        rw output (ap (λ (ends : ℕ → State). page_from ends (openings F - start) start 0 m'.output) z)

    pub any_work : SamePage (page_of L b m start preferred budget) (page_of L b m' start preferred budget)
    unfolding page_of
    any_work = rw (← same_refusal) (go (page_refusal L b m start) refl)
      where
        go : (n : ℕ) → page_refusal L b m start ≡ n
            → SamePage (unless refused n m (paged (formula_of b) m.work (sheet_of (formula_of b) m start preferred budget))) (unless refused n m' (paged (formula_of b) m'.work (sheet_of (formula_of b) m' start preferred budget)))
        go zero e = rw (same_sheet e) (record { answer = refl; output = refl })
        go (suc n) e = record { answer = refl; output = output }
