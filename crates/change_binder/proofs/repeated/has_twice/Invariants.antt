use Rattle.std.proofs.Common.{◌≡◌, drop}
use Rattle.sql_binding.specs.Projections.{has_twice}
use Rattle.change_binder.proofs.repeated.has_twice.Given as goal

abbrev pub invariant-loop-i : goal.invariant-loop-i
invariant-loop-i l = has_twice (drop l.i l.names) ≡ has_twice l.names
