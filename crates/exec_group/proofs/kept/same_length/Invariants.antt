use Rattle.std.proofs.Common.{◌≡◌, get_or, take}
use Rattle.std.specs.List.{All}
use Rattle.exec_group.proofs.kept.same_length.Given as goal

abbrev pub invariant-loop-n : goal.invariant-loop-n
invariant-loop-n l = All (λ h. h ≡ get_or l.groups 0 0) (take l.n l.groups)
