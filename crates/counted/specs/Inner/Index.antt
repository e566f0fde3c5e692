-- The index of a formula's clauses by literal: at the place of each literal the numbers of the clauses that hold it, ascending. The literal words
-- are sorted by their place, and a clause's words stand together, so the index is cut where the words of a place end.
use Rattle.std.specs.Prelude.{ℕ, zero, suc, ◌+◌, ◌-◌, ◌≤◌, ◌<◌, ◌≡◌, cond, List, [], ◌∷◌, eqb, ltb, ℤ, length, get_or, take, drop}
use Rattle.words.specs.Words.{mem}
use Rattle.formula.specs.Limits.{limits}
use Rattle.formula.specs.Inner.Places.{literal_places, place_of}
use Rattle.clauses.specs.Inner.Clauses.{Clauses}
use Rattle.counted.specs.Fresh.{count_if}

-- how many words have the place p, and how many a place before it
unfoldable pub at : ℕ → List ℤ → ℕ
at p ws = count_if (λ w. eqb (place_of w) p) ws

unfoldable pub before : ℕ → List ℤ → ℕ
before p ws = count_if (λ w. ltb (place_of w) p) ws

-- clause c, once for each of its words that has the place p, and then the rest
unfoldable pub entered : ℕ → ℕ → List ℤ → List ℕ → List ℕ
entered c p [] rest = rest
entered c p (w ∷ C) rest = cond (eqb (place_of w) p) (c ∷ entered c p C rest) (entered c p C rest)

-- the clauses that have a word at p, the first clause being number c
unfoldable pub listed : ℕ → List (List ℤ) → ℕ → List ℕ
listed c [] p = []
listed c (C ∷ m) p = entered c p C (listed (suc c) m p)

-- the numbers of the clauses that hold a literal, ascending
unfoldable pub holders : ℕ → List (List ℤ) → ℤ → List ℕ
holders c [] l = []
holders c (C ∷ m) l = cond (mem l C) (c ∷ holders (suc c) m l) (holders (suc c) m l)

-- checked clauses that are few enough for the tables
pub record Few (es ls : List ℤ) : Type 0 where
  pub clauses : Clauses es ls 0
  pub few_clauses : length es ≤ limits.clauses
  pub few_literals : length ls ≤ limits.literals

-- a table by literal that says f of each place
pub record Table (f : ℕ → ℕ) (t : List ℕ) : Type 0 where
  pub long : length t ≡ literal_places
  pub said : (p : ℕ) → p < literal_places → get_or t p 0 ≡ f p

-- the finished index: the place p has the words from those before it to its stop
pub record Index (ls : List ℤ) (m : List (List ℤ)) (stops index : List ℕ) : Type 0 where
  pub room : length ls ≤ length index
  pub stop : (p : ℕ) → p < literal_places → get_or stops p 0 ≡ before p ls + at p ls
  pub held : (p : ℕ) → take (at p ls) (drop (before p ls) index) ≡ listed 0 m p

-- it is entered in a lent list, whose places past the words stay
pub record Indexed (ls : List ℤ) (m : List (List ℤ)) (stops index₀ index : List ℕ) : Type 0 where
  pub indexed : Index ls m stops index
  pub rest : drop (length ls) index ≡ drop (length ls) index₀

-- where the part of a place begins: at the stop of the place before
unfoldable pub start_at : List ℕ → ℕ → ℕ
start_at stops zero = 0
start_at stops (suc p) = get_or stops p 0

abbrev pub part_at : List ℕ → List ℕ → ℕ → List ℕ
part_at stops index p = take (get_or stops p 0 - start_at stops p) (drop (start_at stops p) index)

-- the part of each place lies in the index
pub record Parts (stops index : List ℕ) : Type 0 where
  pub rises : (p : ℕ) → p < literal_places → start_at stops p ≤ get_or stops p 0
  pub fits : (p : ℕ) → p < literal_places → get_or stops p 0 ≤ length index
