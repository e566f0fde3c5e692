-- A table filled by one pass says at every place what the words passed say: a store changes what is said at its own place only. Words that have a place
-- in a table, and the table of a prefix's quantifiers.
use mir.Syntax.{w32}
use mir.Val.{SFits, to_z, of_z}
use mir.ValLaws.{to_z-of_z}
use Rattle.std.specs.Prelude.{◌≡◌, refl, Bool, true, false, cond, ◌||◌, List, [], ◌∷◌, ◌++◌, ℕ, ◌+◌, ◌≤◌, ◌<◌, ℤ, pos, nat_abs, neg_ℤ, length, get_or, take, set, replicate, eqb}
use Rattle.std.proofs.Common.{sym, ◌∙◌, ap, arith, length-set, get_or-set_same, get_or-set_other}
use Rattle.std.proofs.Math.Bool.{or-false}
use Rattle.std.proofs.Math.Decide.{ℕ_discrete}
use Rattle.std.proofs.lemmas.List.{length-replicate}
use Rattle.std.proofs.Math.Seq.{take-length}
use Rattle.words.specs.Laws.Lists.{take_more, any_append, blank, in_at}
use Rattle.words.specs.Lists.{any}
use Rattle.formula.specs.Limits.{limits}
use Rattle.formula.specs.Laws.Limits.{variables_are}
use Rattle.formula.specs.Laws.Named.{all_named, known_up, in_named}
use Rattle.theory.specs.Record.{among}
use Rattle.record.specs.Inner.Ready.{Bound}
use Rattle.record.specs.Inner.Tables.{places, Known, Written, Values, Quantifiers, sign_of}
use Rattle.words.specs.Words.{mem}
use Rattle.formula.specs.Block.{names}
use Rattle.words.specs.Laws.Words.{mem_e}
use Rattle.formula.specs.Formula.{universal}
use Rattle.formula.specs.Laws.Prefix.{one_sign_lem}

-- a variable's number is a place of a table
pub enough : limits.variables < places
enough = omega (arith, variables_are)

-- what is read of a word is what it is
module _ (w : ℤ) (fits : SFits w32 w) where
  pub size_read : {v : ℕ} → v ≡ nat_abs (to_z w32 (of_z w32 w)) → v ≡ nat_abs w
  size_read e = e ∙ ap nat_abs (to_z-of_z w32 w fits)

  pub sign_read : {s : ℕ} → s ≡ sign_of (to_z w32 (of_z w32 w)) → s ≡ sign_of w
  sign_read e = e ∙ ap sign_of (to_z-of_z w32 w fits)

-- which variables one word more names
pub named_more : (p : List ℤ) (i : ℕ) → i < length p → (v : ℕ) → any (names v) (take (i + 1) p) ≡ (any (names v) (take i p) || eqb v (nat_abs (get_or p i (pos 0))))
unfolding any
named_more p i h v =
    rw (take_more p i (pos 0) h, any_append (names v) (take i p) (get_or p i (pos 0) ∷ []))
    (ap (λ b. any (names v) (take i p) || b) (or-false (eqb v (nat_abs (get_or p i (pos 0))))))

-- one store, between what the table said before and what it says after
pub stored : (t : List ℕ) (s a : ℕ) (f g : ℕ → ℕ) → s < length t → ((v : ℕ) → get_or t v 0 ≡ f v) → a ≡ g s → ((v : ℕ) → (v ≡ s → ⊥) → g v ≡ f v) → (v : ℕ) → get_or (set t s a) v 0 ≡ g v
stored t s a f g h said new other v = by (ℕ_discrete v s)
  where
    by : Dec (v ≡ s) → get_or (set t s a) v 0 ≡ g v
    by (yes e) = rw (e, get_or-set_same t s a 0 h) new
    by (no k) = get_or-set_other t s v a 0 k ∙ said v ∙ sym (other v k)

-- the words of ws passed up to i: the table, of some size, is what `says` says of them
pub record Filled (says : List ℤ → ℕ → ℕ) (size : ℕ) (ws : List ℤ) (t : List ℕ) (i : ℕ) : Type 0 where
  pub at : i ≤ length ws
  pub long : length t ≡ size
  pub said : (v : ℕ) → get_or t v 0 ≡ says (take i ws) v

module _ (says : List ℤ → ℕ → ℕ) (size : ℕ) (ws : List ℤ) where
  pub begin : ((v : ℕ) → says [] v ≡ 0) → Filled says size ws (replicate size 0) 0
  begin none = record { at = omega arith; long = length-replicate {A = ℕ} size 0; said = λ v. blank {A = ℕ} 0 size v ∙ sym (none v) }

  module _ (t : List ℕ) (i : ℕ) (f : Filled says size ws t i) where
    pub end : length ws ≤ i → (v : ℕ) → get_or t v 0 ≡ says ws v
    end h v = let e : i ≡ length ws = omega arith in f.said v ∙ rw (e, take-length ws)

    pub turn :
        i < length ws
        → (s a : ℕ)
        → s < size
        → a ≡ says (take i ws ++ get_or ws i (pos 0) ∷ []) s
        → ((v : ℕ) → (v ≡ s → ⊥) → says (take i ws ++ get_or ws i (pos 0) ∷ []) v ≡ says (take i ws) v)
        → Filled says size ws (set t s a) (i + 1)
    turn h s a l new other =
        let m = take_more ws i (pos 0) h in
        record {
          at = omega arith;
          long = length-set t s a ∙ f.long;
          said = rw m (stored t s a (says (take i ws)) (says (take i ws ++ get_or ws i (pos 0) ∷ [])) (omega arith) f.said new other);
        }

-- a word's place in a table
pub placed : (ws : List ℤ) (i s : ℕ) → Known ws → i < length ws → s ≡ nat_abs (get_or ws i (pos 0)) → s < places
placed ws i s h l is = let k = (all_named limits.variables ws h).at i l in omega (arith, enough, k.most)

-- the same of an item that an iterator gives
pub item_small : (ws : List ℤ) → Known ws → (w : ℤ) (i : ℕ) → i < length ws → w ≡ get_or ws i w → nat_abs w ≤ limits.variables
item_small ws h w i l is = let n = in_named limits.variables ws h (in_at ws i w l) in omega (arith, ap nat_abs is, n.most)

pub item_placed : (ws : List ℤ) → Known ws → (w : ℤ) (i : ℕ) → i < length ws → w ≡ get_or ws i w → nat_abs w < places
item_placed ws h w i l is = omega (arith, enough, item_small ws h w i l is)

-- a word names a variable for which a table has a place
pub word_small : (ws : List ℤ) → Known ws → (i : ℕ) → i < length ws → nat_abs (get_or ws i (pos 0)) ≤ limits.variables
word_small ws named i h = ((all_named limits.variables ws named).at i h).most

pub bound_named : {p : List ℤ} → Bound p → Known p
bound_named {p} b = known_up (length p) p limits.variables b.room b.binds.named

-- a bound prefix as words that give values: the table is that of its quantifiers
pub bound_written : {p : List ℤ} → Bound p → Written p (length p)
bound_written {p} b = record { room = omega arith; named = rw (take-length p) (bound_named b); once = rw (take-length p) b.binds.once }

pub quantifiers_of : (p : List ℤ) (t : List ℕ) → Values (among (take (length p) p)) t → Quantifiers p t
quantifiers_of p t said = rw (take-length p) at said

-- a variable has one sign in the prefix
pub quantifier_in : (p : List ℤ) → Bound p → (t : List ℕ) → Quantifiers p t → (l : ℤ) → eqb (get_or t (nat_abs l) 0) 2 ≡ universal p l
unfolding universal
quantifier_in p b t said l = rw (said (nat_abs l)) (go (mem (pos (nat_abs l)) p) (mem (neg_ℤ (pos (nat_abs l))) p) (λ e. let i = mem_e (pos (nat_abs l)) p e in one_sign_lem p b.binds.once i (in_named (length p) p b.binds.named i).some))
  where
    go : (x y : Bool) → (x ≡ true → y ≡ false) → eqb (cond x 1 (cond y 2 0)) 2 ≡ y
    go true y f = rw (f refl)
    go false true f = refl
    go false false f = refl
