use Rattle.std.proofs.Common.{◌≡◌, ◌++◌, take}
use Rattle.std.specs.List.{flat_map}
use Rattle.shell_text.specs.Tables.{rule_part}
use Rattle.shell_text.proofs.tables.print_rule_parts.Given as goal

abbrev pub invariant-loop-shape : goal.invariant-loop-shape
invariant-loop-shape l = l.out.items ≡ l.fn.out.items ++ flat_map rule_part (take l.shape-index l.shapes)
