use Rattle.std.proofs.Common.{◌≡◌, map, take}
use Rattle.std.specs.Prelude.{slice_index_or}
use Rattle.block_codec.specs.Held.{number_value}
use Rattle.col_value.specs.declared.value.Value.TheVariants.{Null}
use Rattle.query_run.proofs.columned.numbers_in.Given as goal

abbrev pub invariant-loop-row : goal.invariant-loop-row
invariant-loop-row l = map number_value l.out.items ≡ map (λ r. slice_index_or r l.column Null) (take l.row-index l.rows)
