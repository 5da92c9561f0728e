use Rattle.std.proofs.Common.{◌≡◌, ◌++◌, take}
use Rattle.catch_files.proofs.parting.add_all.Given as goal

abbrev pub invariant-loop-container : goal.invariant-loop-container
invariant-loop-container l = l.out.items ≡ l.fn.out.items ++ take l.container-index l.containers
