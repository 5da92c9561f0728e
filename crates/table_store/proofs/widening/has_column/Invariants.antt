use Rattle.std.proofs.Common.{◌≡◌, ℕ, map, drop}
use Rattle.std.specs.Prelude.{◌==◌}
use Rattle.std.specs.List.{list_any}
use Rattle.catalog_types.specs.declared.catalogue.ProjColumn.{ProjColumn}
use Rattle.col_value.specs.declared.kinds.Encoding.{Encoding}
use Rattle.folder_model.specs.Projections.{shape_of}
use Rattle.table_store.proofs.widening.has_column.Given as goal

abbrev pub invariant-loop-column : goal.invariant-loop-column
invariant-loop-column l =
    list_any {X = ℕ × Encoding} (λ c. c.0 == l.ordinal) (map (λ (c : ProjColumn). (c.ordinal, c.encoding)) (drop l.column-index l.entry.columns))
    ≡ list_any (λ c. c.0 == l.ordinal) (shape_of l.entry).columns
