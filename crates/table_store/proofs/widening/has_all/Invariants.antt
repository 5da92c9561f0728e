use Rattle.std.proofs.Common.{◌≡◌, ℕ, map, drop}
use Rattle.std.specs.List.{enumerate_from}
use Rattle.col_value.specs.declared.column.Column.{Column}
use Rattle.db_model.specs.Database.{has_columns}
use Rattle.folder_model.specs.Projections.{shape_of}
use Rattle.table_store.specs.Widening.{has_all}
use Rattle.table_store.proofs.widening.has_all.Given as goal

abbrev pub invariant-loop-place : goal.invariant-loop-place
invariant-loop-place l = has_columns (shape_of l.entry) (map (λ (e : ℕ × Column). e.0) (enumerate_from l.place (drop l.place l.columns))) ≡ has_all l.columns l.entry
