use Rattle.std.proofs.Common.{◌≡◌, ◌+◌, ◌-◌, ◌++◌}
use Rattle.generated_load.specs.Load.{generated_load, lines_from}
use Rattle.generated_load.proofs.lines.load.Given as goal

abbrev pub invariant-loop-i : goal.invariant-loop-i
invariant-loop-i l = l.out.items ++ lines_from (l.lines - l.i) (l.i + 1) l.x ≡ generated_load l.lines l.seed
