-- The tests of this crate's lists are the library's, so that its iterators answer them. Each by induction on the list.
use Rattle.std.specs.Prelude.{◌≡◌, Bool, List, [], ◌∷◌, ◌||◌, ◌&&◌, ℤ}
use Rattle.std.specs.Ordering.{int_eq}
use Rattle.std.specs.List.{list_any, list_all}
use Rattle.std.proofs.Common.{refl, sym, ap}
use Rattle.std.proofs.lemmas.Bool.Decides.{Decides-int_eq}
use Rattle.words.specs.Lists.{all, any}
use Rattle.words.specs.Words.{eq_z, mem}
use Rattle.words.specs.Laws.Bools.{bool_eq}
use Rattle.words.specs.Laws.Words.{eq_z_refl, eq_z_eq}

module _ {A : Type 0} (f : A → Bool) where
  pub any_listed : (xs : List A) → list_any f xs ≡ any f xs
  unfolding any
  any_listed [] = refl
  any_listed (x ∷ xs) = ap (λ b. f x || b) (any_listed xs)

  pub all_listed : (xs : List A) → list_all f xs ≡ all f xs
  unfolding all
  all_listed [] = refl
  all_listed (x ∷ xs) = ap (λ b. f x && b) (all_listed xs)

-- `==` of two words, and `contains` of a list of them
int_eq_is : (x y : ℤ) → int_eq y x ≡ eq_z x y
int_eq_is x y =
    let d = Decides-int_eq y x in
    bool_eq (int_eq y x) (eq_z x y) (λ e. rw (d.0 e) (eq_z_refl x)) (λ e. d.1 (sym (eq_z_eq x y e)))

pub mem_listed : (x : ℤ) (ys : List ℤ) → list_any (λ y. int_eq y x) ys ≡ mem x ys
unfolding mem
mem_listed x [] = refl
mem_listed x (y ∷ ys) = rw (int_eq_is x y, mem_listed x ys)
