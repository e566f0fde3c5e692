-- Two tables say which variables are bound and which are named, so what is written is what is free, then the words, then what is idle.
use Rattle.std.proofs.Common.{◌≡◌, sym, ◌∙◌, ap, arith, Bool, true, false, List, ◌++◌, ℤ, pos, ℕ, ◌+◌, ◌-◌, ◌≤◌, length, take, drop, take_at, length-take-le}
use Rattle.std.proofs.Math.ListN.{replicate, length-replicate}
use Rattle.std.proofs.lemmas.List.Edits.{sets}
use Rattle.formula.specs.Laws.Limits.{variables_are}
use Rattle.laid.specs.Block.{those, completed}
use Rattle.laid.specs.Inner.Marks.{marked, picked}
use Rattle.laid.specs.Inner.Ready.{Ready}
use Rattle.laid.specs.Laws.Marks.{picked_free, picked_idle, lines, named, first, last, lines_length, all_length}
use Rattle.laid.proofs.prefix.complete.Goals as goal

-- the words that were put aside
put-aside : (b : ℕ) → b ≤ 1024 → length (take b (replicate 1024 (pos 0))) ≡ b
put-aside b h = length-take-le b (replicate 1024 (pos 0)) (rw (length-replicate 1024 (pos 0)) h)

module _ {o : List ℤ} {v bound from t : ℕ} (r : Ready o v bound from t) where
  few-words : bound ≤ 1024
  few-words = omega (arith, r.words, r.few, variables_are)

  same-length : length (take bound (replicate 1024 (pos 0))) ≡ length (take (6 + bound - 6) (drop 6 o))
  same-length = let e : 6 + bound - 6 ≡ bound = omega arith in rw (e, put-aside bound few-words) (sym (lines_length r))

  aside : {x : List ℤ} (rest : List ℤ) → x ≡ take (6 + bound - 6) (drop 6 o) → take bound (x ++ rest) ≡ lines r
  aside {x} rest h =
      let e : 6 + bound - 6 ≡ bound = omega arith in
      let k : x ≡ lines r = rw e at h in
      take_at x rest bound (ap length k ∙ lines_length r) ∙ k

  module _ {a b : List Bool} {ws : List ℤ} (ea : a ≡ marked (replicate 1025 false) (take (6 + bound - 6) (drop 6 o))) (eb : b ≡ marked (replicate 1025 false) (take (from + t - from) (drop from o))) (ew : ws ≡ lines r) where
    first-here : those (picked a b true) 1 v ≡ first r
    first-here =
        let e : 6 + bound - 6 ≡ bound = omega arith in
        let k : from + t - from ≡ t = omega arith in
        rw (ea, eb, e, k) (picked_free 1025 v (omega (arith, r.few, variables_are)) (lines r) (named r))

    last-here : those (picked a b false) 1 v ≡ last r
    last-here =
        let e : 6 + bound - 6 ≡ bound = omega arith in
        let k : from + t - from ≡ t = omega arith in
        rw (ea, eb, e, k) (picked_idle 1025 v (omega (arith, r.few, variables_are)) (lines r) (named r))

    room-for : 6 + length (those (picked a b true) 1 v) + length ws + length (those (picked a b false) 1 v) ≤ length o
    room-for = omega (arith, ap length first-here, ap length ew, ap length last-here, lines_length r, all_length r, r.prefix)

    whole : those (picked a b true) 1 v ++ ws ++ those (picked a b false) 1 v ≡ completed v (lines r) (named r)
    unfolding completed
    whole = rw (first-here, ew, last-here)

pub slice_bounds-copy_from_slice-end : goal.slice_bounds-copy_from_slice-end
slice_bounds-copy_from_slice-end c = sym (put-aside c.args.bound (few-words c.requires))

pub copy_from_slice-requires : goal.copy_from_slice-requires
copy_from_slice-requires c = same-length c.requires

pub write_prefix-requires-clause-v_in_bounds : goal.write_prefix-requires-clause-v_in_bounds
write_prefix-requires-clause-v_in_bounds c = room-for c.requires c.mark.ensures c.mark-2.ensures (aside c.requires _ c.copy_from_slice.ensures.after)

pub returns : goal.returns
returns c =
    c.write_prefix.ensures ∙ ap (sets c.args.output.now 6) (whole c.requires c.mark.ensures c.mark-2.ensures (aside c.requires _ c.copy_from_slice.ensures.after))
