use Rattle.std.proofs.Common.{◌-◌, ◌≤◌, length}
use Rattle.shell_text.proofs.input.first_end.Given as goal

abbrev pub invariant-loop-next : goal.invariant-loop-next
invariant-loop-next l = l.size ≤ length l.text

abbrev pub decreases-loop-next : goal.decreases-loop-next
decreases-loop-next l = length l.text - l.size
