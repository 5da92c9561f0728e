-- A row of some of a tuple's columns.
use Rattle.std.specs.Prelude.{ℕ, zero, suc, List, ◌∷◌}
use Rattle.col_value.specs.declared.value.Value.{Value}
use Rattle.col_value.specs.declared.value.Value.TheVariants as value

-- the row, behind so many columns that are NULL
abbrev pub behind_nulls : ℕ → List Value → List Value
behind_nulls zero row = row
behind_nulls (suc n) row = value.Null ∷ behind_nulls n row
