use Rattle.std.proofs.Common.{◌≡◌, length}
use Rattle.shell_text.proofs.tables.shapes_of.Given as goal

abbrev pub invariant-loop-i : goal.invariant-loop-i
invariant-loop-i l = length l.shapes.items ≡ l.i
