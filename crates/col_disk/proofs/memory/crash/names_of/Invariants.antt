use Rattle.std.proofs.Common.{◌≡◌, ◌++◌, map}
use Rattle.col_disk.proofs.memory.crash.names_of.Given as goal

abbrev pub invariant-loop-name : goal.invariant-loop-name
invariant-loop-name l = map (λ u. (u.name, u.is_written)) l.names.items ++ l.name-iterator ≡ l.written.entries
