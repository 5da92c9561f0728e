use Rattle.std.proofs.Common.{◌≡◌, drop}
use Rattle.sql_binding.specs.Projections.{first_lacking}
use Rattle.change_binder.proofs.shapes.first_lacking.Given as goal

abbrev pub invariant-loop-name : goal.invariant-loop-name
invariant-loop-name l = first_lacking l.columns (drop l.name-index l.names) ≡ first_lacking l.columns l.names
