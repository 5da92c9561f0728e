use Rattle.std.proofs.Common.{◌≡◌, map, take}
use Rattle.std.specs.Prelude.{slice_index_or}
use Rattle.col_value.specs.declared.value.Value.TheVariants.{Null}
use Rattle.query_run.proofs.columned.values_in.Given as goal

abbrev pub invariant-loop-row : goal.invariant-loop-row
invariant-loop-row l = l.out.items ≡ map (λ r. slice_index_or r l.column Null) (take l.row-index l.rows)
