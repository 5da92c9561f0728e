-- How a number of a lane stands to another number.
use Rattle.std.specs.Prelude.{ℤ, Bool}
use Rattle.std.specs.Ordering.{int_cmp}
use Rattle.sql_tree.specs.declared.tree.Cmp.{Cmp}
use Rattle.sql_bound.specs.Values.{holds}

-- the comparison holds of the number and the one with which it is compared
abbrev pub stands_so : Cmp → ℤ → ℤ → Bool
stands_so cmp with n = holds cmp (int_cmp n with)
