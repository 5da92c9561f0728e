use Rattle.std.proofs.Common.{◌≡◌, ℕ, map, drop}
use Rattle.std.specs.List.{enumerate_from}
use Rattle.col_value.specs.declared.column.Column.{Column}
use Rattle.db_model.specs.Database.{has_columns, ordinals}
use Rattle.folder_model.specs.Projections.{shape_of}
use Rattle.statement_plan.specs.Bare.{bare_table}
use Rattle.statement_plan.proofs.placed.has_all.Given as goal

abbrev pub invariant-loop-place : goal.invariant-loop-place
invariant-loop-place l =
    has_columns (shape_of l.projection) (map (λ (e : ℕ × Column). e.0) (enumerate_from l.place (drop l.place l.table.columns)))
    ≡ has_columns (shape_of l.projection) (ordinals (bare_table l.table))
