use Rattle.std.proofs.Common.{◌≡◌, map, take, Some}
use Rattle.name_binder.proofs.outputs.column_names.Given as goal

abbrev pub invariant-loop-column : goal.invariant-loop-column
invariant-loop-column l = l.out.items ≡ map (λ s. Some s.column.name) (take l.column-index l.seen)
