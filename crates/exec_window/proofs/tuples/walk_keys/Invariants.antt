use Rattle.std.proofs.Common.{◌≡◌, ◌++◌, drop}
use Rattle.exec_window.specs.Leads.{walk_keys}
use Rattle.exec_window.proofs.tuples.walk_keys.Given as goal

abbrev pub invariant-loop-key : goal.invariant-loop-key
invariant-loop-key l = l.out.items ++ drop l.key-index l.window.order ≡ walk_keys l.window
