use Rattle.std.proofs.Common.{◌≡◌, ◌++◌, map, take}
use Rattle.sql_binding.specs.Sight.{seen_as}
use Rattle.name_binder.proofs.sources.push_columns.Given as goal

abbrev pub invariant-loop-column : goal.invariant-loop-column
invariant-loop-column l = l.out.items ≡ l.fn.out.items ++ map (seen_as l.place l.item) (take l.column-index l.columns)
