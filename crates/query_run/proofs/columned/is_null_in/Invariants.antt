use Rattle.std.proofs.Common.{◌≡◌, take}
use Rattle.std.specs.Prelude.{slice_index_or}
use Rattle.std.specs.List.{All}
use Rattle.col_value.specs.declared.value.Value.TheVariants.{Null}
use Rattle.query_run.proofs.columned.is_null_in.Given as goal

abbrev pub invariant-loop-row : goal.invariant-loop-row
invariant-loop-row l = All (λ r. slice_index_or r l.column Null ≡ Null) (take l.row-index l.rows)
