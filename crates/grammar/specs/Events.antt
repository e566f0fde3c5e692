-- A text as events, and back: what the events of a text say is that text.
use Rattle.std.specs.Prelude.{◌≡◌, refl, List, [], ◌∷◌, ℕ, ℤ}
use Rattle.grammar.specs.Grammar.{Group, Text}
use Rattle.grammar.specs.Machine.{Event, announces, counts, opens, binds, holds, ends}

-- ---- the events of a text, before others
unfoldable pub say_numbers : List ℕ → List Event → List Event
say_numbers [] es = es
say_numbers (n ∷ ns) es = binds n ∷ say_numbers ns es

unfoldable pub say_literals : List ℤ → List Event → List Event
say_literals [] es = ends ∷ es
say_literals (l ∷ ls) es = holds l ∷ say_literals ls es

unfoldable pub say_groups : List Group → List Event → List Event
say_groups [] es = es
say_groups (g ∷ gs) es = opens g.quantifier ∷ say_numbers g.numbers (say_groups gs es)

unfoldable pub say_clauses : List (List ℤ) → List Event
say_clauses [] = []
say_clauses (c ∷ cs) = say_literals c (say_clauses cs)

unfoldable pub say : Text → List Event
say t = announces t.variables ∷ counts t.count ∷ say_groups t.groups (say_clauses t.clauses)

-- ---- back: an event put before what the later ones say, with numbers that wait for their quantifier
pub record Heard : Type 0 where
  pub text : Text
  pub waiting : List ℕ

-- a literal before its clause
abbrev pub into_first : ℤ → List (List ℤ) → List (List ℤ)
into_first l [] = []
into_first l (c ∷ cs) = (l ∷ c) ∷ cs

unfoldable pub hear : Event → Text → List ℕ → Heard
hear (announces m) t ns = record { text = record { variables = m; count = t.count; groups = t.groups; clauses = t.clauses }; waiting = ns }
hear (counts m) t ns = record { text = record { variables = t.variables; count = m; groups = t.groups; clauses = t.clauses }; waiting = ns }
hear (opens q) t ns = record { text = record { variables = t.variables; count = t.count; groups = record { quantifier = q; numbers = ns } ∷ t.groups; clauses = t.clauses }; waiting = [] }
hear (binds n) t ns = record { text = t; waiting = n ∷ ns }
hear (holds l) t ns = record { text = record { variables = t.variables; count = t.count; groups = t.groups; clauses = into_first l t.clauses }; waiting = ns }
hear ends t ns = record { text = record { variables = t.variables; count = t.count; groups = t.groups; clauses = [] ∷ t.clauses }; waiting = ns }

unfoldable pub heard : List Event → Heard
heard [] = record { text = record { variables = 0; count = 0; groups = []; clauses = [] }; waiting = [] }
heard (e ∷ es) = hear e (heard es).text (heard es).waiting

abbrev made : List ℕ → List Group → List (List ℤ) → Heard
made ns gs cs = record { text = record { variables = 0; count = 0; groups = gs; clauses = cs }; waiting = ns }

hear_literals : (ls : List ℤ) (cs : List (List ℤ)) (es : List Event) → heard es ≡ made [] [] cs → heard (say_literals ls es) ≡ made [] [] (ls ∷ cs)
unfolding heard hear say_literals
hear_literals [] cs es h = rw h
hear_literals (l ∷ ls) cs es h = rw (hear_literals ls cs es h)

hear_clauses : (cs : List (List ℤ)) → heard (say_clauses cs) ≡ made [] [] cs
unfolding heard say_clauses
hear_clauses [] = refl
hear_clauses (c ∷ cs) = hear_literals c cs (say_clauses cs) (hear_clauses cs)

hear_numbers : (ns : List ℕ) (gs : List Group) (cs : List (List ℤ)) (es : List Event) → heard es ≡ made [] gs cs → heard (say_numbers ns es) ≡ made ns gs cs
unfolding heard hear say_numbers
hear_numbers [] gs cs es h = h
hear_numbers (n ∷ ns) gs cs es h = rw (hear_numbers ns gs cs es h)

hear_groups : (gs : List Group) (cs : List (List ℤ)) → heard (say_groups gs (say_clauses cs)) ≡ made [] gs cs
unfolding heard hear say_groups
hear_groups [] cs = hear_clauses cs
hear_groups (g ∷ gs) cs = rw (hear_numbers g.numbers gs cs (say_groups gs (say_clauses cs)) (hear_groups gs cs))

pub hear_say : (t : Text) → (heard (say t)).text ≡ t
unfolding heard hear say
hear_say t = rw (hear_groups t.groups t.clauses)
