use Rattle.std.proofs.Common.{◌≡◌, drop}
use Rattle.sql_binding.specs.Search.{first_in_group}
use Rattle.name_binder.specs.Looks.{looks, reach_of}
use Rattle.name_binder.proofs.view.View.first_in_group.Given as goal

abbrev pub invariant-loop-column : goal.invariant-loop-column
invariant-loop-column l = first_in_group (looks l.self.look) (reach_of l.self) (drop l.column-index l.group) ≡ first_in_group (looks l.self.look) (reach_of l.self) l.group
