-- The limits are the code's constants, and small. By their definition; a proof about a table's size knows no more of them than this.
use Rattle.std.specs.Prelude.{◌≡◌, refl, ◌≤◌}
use Rattle.std.proofs.Common.{lit≤}
use Rattle.formula.specs.Limits.{limits, max_variables, max_clauses, max_literals, max_group}

pub variables_are : limits.variables ≡ max_variables
unfolding limits
variables_are = refl

pub clauses_are : limits.clauses ≡ max_clauses
unfolding limits
clauses_are = refl

pub literals_are : limits.literals ≡ max_literals
unfolding limits
literals_are = refl

pub group_is : limits.group ≡ max_group
unfolding limits
group_is = refl

-- an opening's number has 32 bits
pub group_small : limits.group ≤ 31
unfolding limits
group_small = lit≤ tt

-- a variable is far from the least word
pub variables_small : limits.variables ≤ 2147483647
unfolding limits
variables_small = lit≤ tt
