use Rattle.std.proofs.Common.{◌≡◌, drop}
use Rattle.std.specs.Prelude.{find}
use Rattle.sql_binding.specs.Projections.{has_name}
use Rattle.change_binder.proofs.shapes.column_has_differences.Given as goal

abbrev pub invariant-loop-column : goal.invariant-loop-column
invariant-loop-column l = find (has_name l.name) (drop l.column-index l.columns) ≡ find (has_name l.name) l.columns
