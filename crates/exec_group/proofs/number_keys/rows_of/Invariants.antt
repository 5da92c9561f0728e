use Rattle.std.proofs.Common.{◌≡◌, map, take}
use Rattle.exec_group.specs.NumberKeys.{number_key}
use Rattle.exec_group.proofs.number_keys.rows_of.Given as goal

abbrev pub invariant-loop-n : goal.invariant-loop-n
invariant-loop-n l = l.out ≡ map number_key (take l.n-index l.numbers)
