-- How high the readers stand above one another: each calls lower ones, and a parenthesis those of one depth less.
use Rattle.std.specs.Prelude.{ℕ, ◌+◌, ◌*◌, Bool, true, false}
use Rattle.sql_expr.specs.declared.level.Level.{Level}

-- an aggregate's argument holds no aggregate
abbrev pub floor : Bool → ℕ → ℕ
floor true depth = 1000 + 40 * depth
floor false depth = 40 * depth

abbrev pub rank_of : Level → ℕ
rank_of Level.Factors = 5
rank_of Level.Choices = 14
rank_of Level.Conjuncts = 22
rank_of Level.Disjuncts = 26
