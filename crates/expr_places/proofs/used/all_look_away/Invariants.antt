use Rattle.std.proofs.Common.{◌≡◌, drop}
use Rattle.std.specs.List.{list_all}
use Rattle.expr_places.specs.Places.{is_other, looks_only}
use Rattle.expr_places.proofs.used.all_look_away.Given as goal

abbrev pub invariant-loop-e : goal.invariant-loop-e
invariant-loop-e l = list_all (looks_only (is_other l.column)) (drop l.e-index l.exprs) ≡ list_all (looks_only (is_other l.column)) l.exprs
