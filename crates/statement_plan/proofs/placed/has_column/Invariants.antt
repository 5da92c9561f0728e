use Rattle.std.proofs.Common.{◌≡◌, map, drop, ℕ}
use Rattle.std.specs.Prelude.{◌==◌}
use Rattle.std.specs.List.{list_any}
use Rattle.catalog_types.specs.declared.catalogue.ProjColumn.{ProjColumn}
use Rattle.col_value.specs.declared.kinds.Encoding.{Encoding}
use Rattle.folder_model.specs.Projections.{shape_of}
use Rattle.statement_plan.specs.Places.{has_ordinal}
use Rattle.statement_plan.proofs.placed.has_column.Given as goal

abbrev pub invariant-loop-column : goal.invariant-loop-column
invariant-loop-column l =
    list_any {X = ℕ × Encoding} (λ c. c.0 == l.ordinal) (map (λ (c : ProjColumn). (c.ordinal, c.encoding)) (drop l.column-index l.projection.columns))
    ≡ has_ordinal (shape_of l.projection) l.ordinal
