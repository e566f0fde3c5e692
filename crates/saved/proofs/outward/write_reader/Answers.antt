-- Twelve numbers, stored over twelve, are what is left.
use Rattle.std.specs.Prelude.{◌≡◌, List, ℕ, length, ◌+◌, ◌≤◌}
use Rattle.std.proofs.Common.{arith, rules, append-nil, drop_of_length-le}
use Rattle.std.proofs.lemmas.List.Edits.{sets, sets-eq}
use Rattle.saved.specs.Numbers.{reader_numbers}
use Rattle.saved.proofs.Back.{bit}
use Rattle.saved.proofs.outward.write_reader.Goals as goal

over : (xs l : List ℕ) → length l ≡ length xs → sets l 0 xs ≡ xs
over xs l e =
    let k : length l ≤ 0 + length xs = omega (arith, e) in
    let fits : 0 + length xs ≤ length l = omega (arith, e) in
    rw (sets-eq xs l 0 fits, drop_of_length-le l k) (append-nil xs)

pub returns : goal.returns
returns c =
    let k = c.args.reader.kept in
    let n : length c.args.state.now ≡ 12 = search rules in
    let e = over (reader_numbers c.args.reader) c.args.state.now n in
    let p = bit k.universal in
    let q = bit k.large in
    let t = bit k.over in
    cc
