-- [write] A tree written as a text: the problem line, a line for each group, a line for each clause, and nothing else.
use Rattle.std.specs.Prelude.{cond, List, [], ◌∷◌, ◌++◌, map, ℕ, zero, suc, ◌+◌, ◌/◌, ◌%◌, leb, ℤ, pos, negsuc}
use Rattle.grammar.specs.Grammar.{Quantifier, forall, exists, Group, Text, feed, space, '-', '0', 'a', 'c', 'e', 'f', 'n', 'p'}

-- [write.number] the digits of n; the first number bounds how many there are
unfoldable pub digits_of : ℕ → ℕ → List ℕ
digits_of zero n = []
digits_of (suc k) n = cond (leb n 9) (('0' + n) ∷ []) (digits_of k (n / 10) ++ (('0' + n % 10) ∷ []))

unfoldable pub numeral : ℕ → List ℕ
numeral n = digits_of (suc n) n

unfoldable pub literal : ℤ → List ℕ
literal (pos n) = numeral n
literal (negsuc n) = '-' ∷ numeral (suc n)

-- [write.lines] a line that 0 ends: its words, each with a space behind it, then 0 and a line feed
unfoldable pub line : List (List ℕ) → List ℕ
line [] = '0' ∷ feed ∷ []
line (w ∷ ws) = w ++ (space ∷ line ws)

-- [write.problem]
unfoldable pub problem_line : ℕ → ℕ → List ℕ
problem_line m n = 'p' ∷ space ∷ 'c' ∷ 'n' ∷ 'f' ∷ space ∷ (numeral m ++ (space ∷ (numeral n ++ (feed ∷ []))))

abbrev pub letter : Quantifier → ℕ
letter forall = 'a'
letter exists = 'e'

unfoldable pub group_lines : List Group → List ℕ
group_lines [] = []
group_lines (g ∷ gs) = line ((letter g.quantifier ∷ []) ∷ map numeral g.numbers) ++ group_lines gs

unfoldable pub clause_lines : List (List ℤ) → List ℕ
clause_lines [] = []
clause_lines (c ∷ cs) = line (map literal c) ++ clause_lines cs

unfoldable pub written : Text → List ℕ
written t = problem_line t.variables t.count ++ (group_lines t.groups ++ clause_lines t.clauses)
