use Rattle.std.proofs.Common.{ℕ, ◌<◌}
use Rattle.exec_group.specs.Groups.{FitsAt}
use Rattle.exec_group.proofs.groups.all_fit.Given as goal

abbrev pub invariant-loop-group : goal.invariant-loop-group
invariant-loop-group l = (g : ℕ) → g < l.group → FitsAt l.columns g
