use Rattle.std.proofs.Common.{◌≡◌, List, ◌∷◌, [], take}
use Rattle.col_value.specs.declared.value.Value.{Value}
use Rattle.exec_group.specs.Columns.{each_put}
use Rattle.exec_group.proofs.groups.put_row.Given as goal

abbrev pub invariant-loop-i : goal.invariant-loop-i
invariant-loop-i l = l.columns.items ≡ each_put (λ (r : List Value). r) l.count (l.group ∷ []) (l.row ∷ []) (take l.i l.aggs) l.fn.columns.items
