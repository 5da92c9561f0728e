use Rattle.std.proofs.Common.{◌≡◌, take}
use Rattle.col_value.specs.declared.wide.Wide.TheVariants as wide
use Rattle.exec_group.specs.Columns.{put_each}
use Rattle.exec_group.proofs.kept.take_numbers.Given as goal

abbrev pub invariant-loop-i : goal.invariant-loop-i
invariant-loop-i l = l.list.items ≡ put_each (λ n. wide.Int n) (take l.i l.groups) (take l.i l.numbers) l.fn.list.items
