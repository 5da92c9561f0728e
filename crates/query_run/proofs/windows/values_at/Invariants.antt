use Rattle.std.proofs.Common.{◌≡◌, map, take}
use Rattle.std.specs.List.{slice_index_or}
use Rattle.col_value.specs.declared.wide.Wide.TheVariants.{Null}
use Rattle.query_run.proofs.windows.values_at.Given as goal

abbrev pub invariant-loop-column : goal.invariant-loop-column
invariant-loop-column l = l.out.items ≡ map (λ c. slice_index_or c l.i Null) (take l.column-index l.columns)
