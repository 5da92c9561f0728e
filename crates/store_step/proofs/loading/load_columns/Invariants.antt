use Rattle.std.proofs.Common.{◌≡◌, map, take}
use Rattle.db_model.specs.Loading.{load_column}
use Rattle.store_step.proofs.loading.load_columns.Given as goal

abbrev pub invariant-loop-column : goal.invariant-loop-column
invariant-loop-column l = l.out.items ≡ map load_column (take l.column-index l.columns)
