-- A word that names one of n variables by its size: what the rows 5 and 9 leave, at every place of a list.
use Rattle.std.specs.Prelude.{◌≡◌, false, List, ℕ, ◌+◌, ◌-◌, min, ◌≤◌, ◌<◌, eqb, ltb, ℤ, pos, nat_abs, length, get_or, take, drop}
use Rattle.std.proofs.Common.{arith, length-take, length-drop, get_or-take, get_or-drop, ne_eqb, ltb-false, le-ltb}
use Rattle.std.proofs.lemmas.Bool.{eqb-false}
use Rattle.words.specs.Laws.Bools.{or_fl, or_fr}
use Rattle.words.specs.Lists.{In, any}
use Rattle.words.specs.Laws.Lists.{any_f, any_none, in_at}
use Rattle.formula.specs.Block.{no_variable, twice}
use Rattle.formula.specs.Inner.Tables.{repeated}
use Rattle.formula.specs.Inner.Named.{Named, AllNamed}

pub named : (n : ℕ) (w : ℤ) → no_variable n w ≡ false → Named n w
named n w h =
    let z : nat_abs w ≡ 0 → ⊥ = eqb-false (nat_abs w) 0 (or_fl (eqb (nat_abs w) 0) (ltb n (nat_abs w)) h) in
    record { some = omega arith; most = ltb-false n (nat_abs w) (or_fr (eqb (nat_abs w) 0) (ltb n (nat_abs w)) h) }

pub named_passes : (n : ℕ) (w : ℤ) → Named n w → no_variable n w ≡ false
named_passes n w h = rw (ne_eqb (nat_abs w) 0 (λ e. omega (arith, h.some))) (le-ltb n (nat_abs w) h.most)

module _ (n : ℕ) (ws : List ℤ) where
  pub in_named : any (no_variable n) ws ≡ false → {w : ℤ} → In w ws → Named n w
  in_named h {w} i = named n w (any_none (no_variable n) ws h i)

  pub all_named : any (no_variable n) ws ≡ false → AllNamed n ws
  all_named h = record { at = λ i l. in_named h (in_at ws i (pos 0) l) }

  -- more variables, and a part of the list
  pub named_up : (m : ℕ) → n ≤ m → AllNamed n ws → AllNamed m ws
  named_up m h a = record { at = λ i l. record { some = (a.at i l).some; most = omega (arith, (a.at i l).most) } }

  pub known_up : (m : ℕ) → n ≤ m → any (no_variable n) ws ≡ false → any (no_variable m) ws ≡ false
  known_up m h k = any_f (no_variable m) ws (λ w i. let a = in_named k {w = w} i in named_passes m w (record { some = a.some; most = omega (arith, a.most) }))

  pub named_part : (k j : ℕ) → AllNamed n ws → AllNamed n (take k (drop j ws))
  named_part k j a = record { at = λ i l. part i (rw (length-take, length-drop) at l) }
    where
      part : (i : ℕ) → i < min k (length ws - j) → Named n (get_or (take k (drop j ws)) i (pos 0))
      part i l =
          let near : i < k = omega arith in
          let far : j + i < length ws = omega arith in
          rw (get_or-take k (drop j ws) i (pos 0) near, get_or-drop j ws i (pos 0)) (a.at (j + i) far)

  -- words that name variables within n are too large for no table of n, so that `repeated` asks for a variable twice alone
  pub repeated_is : any (no_variable n) ws ≡ false → repeated n ws ≡ twice ws
  repeated_is h = let z = any_f (λ w. ltb n (nat_abs w)) ws (λ w i. le-ltb n (nat_abs w) (in_named h {w = w} i).most) in rw z
