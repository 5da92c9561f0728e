use Rattle.std.proofs.Common.{◌≡◌, drop}
use Rattle.std.specs.List.{list_all}
use Rattle.expr_places.specs.Places.{is_other}
use Rattle.expr_places.proofs.used.are_others.Given as goal

abbrev pub invariant-loop-other : goal.invariant-loop-other
invariant-loop-other l = list_all (is_other l.column) (drop l.other-index l.columns) ≡ list_all (is_other l.column) l.columns
