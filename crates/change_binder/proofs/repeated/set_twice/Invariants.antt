use Rattle.std.proofs.Common.{◌≡◌, [], take, drop}
use Rattle.sql_binding.specs.Changes.{set_twice_behind}
use Rattle.change_binder.proofs.Settled.{columns_before}
use Rattle.change_binder.proofs.repeated.set_twice.Given as goal

abbrev pub invariant-loop-i : goal.invariant-loop-i
invariant-loop-i l = set_twice_behind (columns_before (take l.i l.settings) []) (drop l.i l.settings) ≡ set_twice_behind [] l.settings
