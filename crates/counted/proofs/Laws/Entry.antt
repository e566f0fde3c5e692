-- One literal more, and the last one less: the table of statuses changes at two places, and the walks over both literals' clauses do the rest.
use Rattle.std.specs.Prelude.{ℕ, ◌+◌, ◌-◌, ◌*◌, ◌≤◌, ◌<◌, Bool, cond, ◌||◌, List, [], eqb, ℤ, pos, neg_ℤ, nat_abs, length, take, set}
use Rattle.std.proofs.Math.Path.{◌≡◌, refl, ap, fun_ext}
use Rattle.std.proofs.Common.{◌∙◌, arith, length-set, get_or-take, take-take, length-take-le}
use Rattle.std.proofs.Math.Bool.{true, false, not, or_comm}
use Rattle.std.proofs.Math.ListN.{get_or}
use Rattle.words.specs.Words.{eq_z, mem}
use Rattle.words.specs.Lists.{any}
use Rattle.words.specs.Laws.Lists.{take_more}
use Rattle.words.specs.Laws.Words.{mem_more}
use Rattle.formula.specs.Limits.{limits, max_variables}
use Rattle.formula.specs.Formula.{existential, universal}
use Rattle.formula.specs.Block.{names, twice}
use Rattle.formula.specs.Inner.Named.{Named}
use Rattle.formula.specs.Inner.Places.{place_of}
use Rattle.formula.specs.Laws.Permuted.{quantifier}
use Rattle.formula.specs.Laws.Prefix.{stands, fresh_at}
use Rattle.theory.specs.Record.{among, assigned}
use Rattle.theory.proofs.Laws.Assignment.{assigned_among}
use Rattle.theory.specs.Grown.{put}
use Rattle.tables.specs.Inner.ByLiteral.{status_in}
use Rattle.counted.specs.Fresh.{bit}
use Rattle.counted.specs.Inner.Entry.{Setting, Taking, Unsetting}
use Rattle.counted.specs.Inner.Index.{Index, listed, part_at}
use Rattle.counted.specs.Inner.State.{Set, SetFrom}
use Rattle.counted.specs.Inner.Walk.{Movable, Renumbered}
use Rattle.counted.proofs.Laws.Held.{part_is}
use Rattle.counted.proofs.Laws.Numbers.{open_means}
use Rattle.counted.proofs.Laws.State.{Change, counted_then, is_back, is_set, one_true, opp_opens, opp_trues, own_opens, own_trues, rest_then, some_open}
use Rattle.counted.proofs.Laws.Statuses.{opposite_is, other_in, own_in, set_sorts, small, unassigned_by, unset_sorts}
use Rattle.counted.specs.declared.walk.Bounds.{Bounds}

-- ---- the clauses of a literal and of its opposite
module _ (p : List ℤ) (room : length p ≤ limits.variables) (l : ℤ) (named : Named (length p) l) (own other : ℕ) (at-l : own ≡ place_of l) (at_n : other ≡ 2 * max_variables - own)
    (ls : List ℤ) (m : List (List ℤ)) (stops index : List ℕ) (x : Index ls m stops index) where
  part_own : part_at stops index own ≡ listed 0 m (place_of l)
  part_own = part_is ls m stops index x own (own_in p room l named own other at-l at_n) ∙ ap (listed 0 m) at-l

  part_other : part_at stops index other ≡ listed 0 m (place_of (neg_ℤ l))
  part_other = part_is ls m stops index x other (other_in p room l named own other at-l at_n) ∙ ap (listed 0 m) (opposite_is p room l named own other at-l at_n)

-- ---- a literal is set: `own` and `other` are the places, e is 1 if it is existential
module _ (l : ℤ) (stops index statuses ts os : List ℕ) (b : Bounds) (x : Setting l stops index statuses ts os b) (own other e : ℕ) (at-l : own ≡ place_of l) (at_n : other ≡ 2 * max_variables - own) (open_is : e ≡ bit (eqb (get_or statuses own 0) 2)) where
  e_is : e ≡ bit (existential x.p l)
  e_is =
      let a : get_or statuses own 0 ≡ status_in statuses l = ap (λ n. get_or statuses n 0) at-l in
      let m = open_means x.p x.ρ (status_in statuses) l (x.now_set.sorts l x.named) in
      let u = unassigned_by x.p x.ρ l x.free in
      open_is ∙ ap (λ n. bit (eqb n 2)) a ∙ ap bit (m ∙ u.0)

  module _ (L M : List ℕ) (l-is : L ≡ part_at stops index own) (m-is : M ≡ part_at stops index other) where
    own_list : L ≡ listed 0 x.m (place_of l)
    own_list = l-is ∙ part_own x.p x.room l x.named own other at-l at_n x.ls x.m stops index x.indexed

    other_list : M ≡ listed 0 x.m (place_of (neg_ℤ l))
    other_list = m-is ∙ part_other x.p x.room l x.named own other at-l at_n x.ls x.m stops index x.indexed

    size : nat_abs l ≤ limits.variables
    size = small x.p x.room l x.named

    changes : Change x.p x.m x.once x.ρ l x.named.some size x.free e e_is L M own_list other_list x.ρ (put l x.ρ) one_true (some_open e)
    changes = is_set x.p x.m x.once x.ρ l x.named.some size x.free e e_is L M own_list other_list

    pub first_asks : Movable 1 0 L ts × Movable 0 e L os
    first_asks = (own_trues _ _ _ _ _ _ _ _ _ _ _ _ _ _ _ _ _ _ changes ts os b x.now_set.counted, own_opens _ _ _ _ _ _ _ _ _ _ _ _ _ _ _ _ _ _ changes ts os b x.now_set.counted)

    module _ (ts₁ os₁ : List ℕ) (b₁ : Bounds) (w : Renumbered one_true (some_open e) L ts os b [] ts₁ os₁ b₁) where
      pub second_asks : Movable 0 0 M ts₁ × Movable 0 e M os₁
      second_asks = (opp_trues _ _ _ _ _ _ _ _ _ _ _ _ _ _ _ _ _ _ changes ts os b x.now_set.counted ts₁ os₁ b₁ w, opp_opens _ _ _ _ _ _ _ _ _ _ _ _ _ _ _ _ _ _ changes ts os b x.now_set.counted ts₁ os₁ b₁ w)

      module _ (ts₂ os₂ : List ℕ) (b₂ : Bounds) (v : Renumbered (some_open 0) (some_open e) M ts₁ os₁ b₁ [] ts₂ os₂ b₂) where
        pub set_then : SetFrom x.p x.m (put l x.ρ) ts os (set (set statuses own 1) other 0) ts₂ os₂ b₂
        set_then = record {
          now_set = record {
            long = length-set (set statuses own 1) other 0 ∙ length-set statuses own 1 ∙ x.now_set.long;
            sorts = rw (at-l, opposite_is x.p x.room l x.named own other at-l at_n) (set_sorts x.p x.room x.ρ l x.named x.free statuses x.now_set.long x.now_set.sorts);
            counted = counted_then _ _ _ _ _ _ _ _ _ _ _ _ _ _ _ _ _ _ changes ts os b x.now_set.counted ts₁ os₁ b₁ w ts₂ os₂ b₂ v;
          };
          rest = rest_then _ _ _ _ _ _ _ _ _ _ _ _ _ _ _ _ _ _ changes ts os b x.now_set.counted ts₁ os₁ b₁ w ts₂ os₂ b₂ v;
        }

-- ---- the last literal is taken back: u is its quantifier, and s the status that both literals get
module _ (l : ℤ) (stops index quantifiers statuses ts os : List ℕ) (b : Bounds) (x : Unsetting l stops index quantifiers statuses ts os b) (v u : ℕ) (v_is : v ≡ nat_abs l) (u-is : u ≡ get_or quantifiers v 0) where
  one_quantifier : universal x.p l ≡ not (existential x.p l)
  one_quantifier = quantifier (length x.p) x.p x.bound.binds.named x.bound.binds.once refl l x.named

  u_says : u ≡ cond (existential x.p l) 1 2
  unfolding existential universal
  u_says = u-is ∙ ap (λ n. get_or quantifiers n 0) v_is ∙ x.tabled (nat_abs l) ∙ by (existential x.p l) (universal x.p l) one_quantifier
    where
      by : (a b : Bool) → b ≡ not a → ◌≡◌ {A = ℕ} (cond a 1 (cond b 2 0)) (cond a 1 2)
      by true b q = refl
      by false b q = rw q

  module _ (own other e s : ℕ) (at-l : own ≡ place_of l) (at_n : other ≡ 2 * max_variables - own) (open_is : e ≡ bit (eqb u 1)) (s-is : s ≡ u + 1) where
    e_says : e ≡ bit (existential x.p l)
    e_says = open_is ∙ ap (λ n. bit (eqb n 1)) u_says ∙ by (existential x.p l)
      where
        by : (t : Bool) → bit (eqb (cond t 1 2) 1) ≡ bit t
        by true = refl
        by false = refl

    s_says : s ≡ cond (existential x.p l) 2 3
    s_says = s-is ∙ ap (λ n. n + 1) u_says ∙ by (existential x.p l)
      where
        by : (t : Bool) → cond t 1 2 + 1 ≡ cond t 2 3
        by true = refl
        by false = refl

    module _ (L M : List ℕ) (l-is : L ≡ part_at stops index own) (m-is : M ≡ part_at stops index other) where
      own_back : L ≡ listed 0 x.m (place_of l)
      own_back = l-is ∙ part_own x.p x.bound.room l x.named own other at-l at_n x.ls x.m stops index x.indexed

      other_back : M ≡ listed 0 x.m (place_of (neg_ℤ l))
      other_back = m-is ∙ part_other x.p x.bound.room l x.named own other at-l at_n x.ls x.m stops index x.indexed

      size_back : nat_abs l ≤ limits.variables
      size_back = small x.p x.bound.room l x.named

      undoes : Change x.p x.m x.once x.ρ l x.named.some size_back x.free e e_says L M own_back other_back (put l x.ρ) x.ρ (some_open e) one_true
      undoes = is_back x.p x.m x.once x.ρ l x.named.some size_back x.free e e_says L M own_back other_back

      pub first_back : Movable 0 1 L ts × Movable e 0 L os
      first_back = (own_trues _ _ _ _ _ _ _ _ _ _ _ _ _ _ _ _ _ _ undoes ts os b x.now_set.counted, own_opens _ _ _ _ _ _ _ _ _ _ _ _ _ _ _ _ _ _ undoes ts os b x.now_set.counted)

      module _ (ts₁ os₁ : List ℕ) (b₁ : Bounds) (w : Renumbered (some_open e) one_true L ts os b [] ts₁ os₁ b₁) where
        pub second_back : Movable 0 0 M ts₁ × Movable e 0 M os₁
        second_back = (opp_trues _ _ _ _ _ _ _ _ _ _ _ _ _ _ _ _ _ _ undoes ts os b x.now_set.counted ts₁ os₁ b₁ w, opp_opens _ _ _ _ _ _ _ _ _ _ _ _ _ _ _ _ _ _ undoes ts os b x.now_set.counted ts₁ os₁ b₁ w)

        module _ (ts₂ os₂ : List ℕ) (b₂ : Bounds) (y : Renumbered (some_open e) (some_open 0) M ts₁ os₁ b₁ [] ts₂ os₂ b₂) where
          pub back_then : SetFrom x.p x.m x.ρ ts os (set (set statuses own s) other s) ts₂ os₂ b₂
          back_then = record {
            now_set = record {
              long = length-set (set statuses own s) other s ∙ length-set statuses own s ∙ x.now_set.long;
              sorts = rw (at-l, opposite_is x.p x.bound.room l x.named own other at-l at_n) (unset_sorts x.p x.bound.room x.ρ l x.named x.free statuses s x.now_set.long one_quantifier s_says x.now_set.sorts);
              counted = counted_then _ _ _ _ _ _ _ _ _ _ _ _ _ _ _ _ _ _ undoes ts os b x.now_set.counted ts₁ os₁ b₁ w ts₂ os₂ b₂ y;
            };
            rest = rest_then _ _ _ _ _ _ _ _ _ _ _ _ _ _ _ _ _ _ undoes ts os b x.now_set.counted ts₁ os₁ b₁ w ts₂ os₂ b₂ y;
          }

-- ---- the literals of a record, taken back from its end
pub put_last : (ls : List ℤ) (i : ℕ) → i < length ls → among (take (i + 1) ls) ≡ put (get_or ls i (pos 0)) (among (take i ls))
unfolding put
put_last ls i h = fun_ext at_x
  where
    at_x : (x : ℤ) → mem x (take (i + 1) ls) ≡ (eq_z x (get_or ls i (pos 0)) || mem x (take i ls))
    at_x x = rw (take_more ls i (pos 0) h) (mem_more x (take i ls) (get_or ls i (pos 0)) ∙ or_comm (mem x (take i ls)) (eq_z x (get_or ls i (pos 0))))

pub free_last : (ls : List ℤ) (n i : ℕ) → n ≤ length ls → i < n → twice (take n ls) ≡ false → assigned (among (take i ls)) (get_or ls i (pos 0)) ≡ false
unfolding stands
free_last ls n i r h t =
    let l : i < length (take n ls) = rw (length-take-le n ls r) h in
    let f = fresh_at (take n ls) t i l in
    let g : any (names (nat_abs (get_or ls i (pos 0)))) (take i ls) ≡ false = rw (get_or-take n ls i (pos 0) h, take-take i n ls (omega arith)) at f in
    assigned_among (take i ls) (get_or ls i (pos 0)) ∙ g

-- with the first i of its words: what the last of them asks, and what it leaves
module _ (lits : List ℤ) (n : ℕ) (stops index quantifiers statuses₀ ts₀ os₀ : List ℕ) (b₀ : Bounds) (x : Taking lits n stops index quantifiers statuses₀ ts₀ os₀ b₀) (statuses ts os : List ℕ) (b : Bounds) (i : ℕ) (h : i < n)
    (s : Set x.p x.m (among (take (i + 1) lits)) statuses ts os b) where
  pub last_is : among (take (i + 1) lits) ≡ put (get_or lits i (pos 0)) (among (take i lits))
  last_is = put_last lits i (omega (arith, x.room))

  unfoldable pub unsetting : Unsetting (get_or lits i (pos 0)) stops index quantifiers statuses ts os b
  unsetting = record {
    p = x.p;
    m = x.m;
    ls = x.ls;
    ρ = among (take i lits);
    indexed = x.indexed;
    once = x.once;
    bound = x.bound;
    tabled = x.tabled;
    named = x.named i h;
    free = free_last lits n i x.room h x.different;
    now_set = rw last_is at s;
  }
