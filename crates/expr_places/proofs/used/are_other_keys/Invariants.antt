use Rattle.std.proofs.Common.{◌≡◌, drop}
use Rattle.std.specs.List.{list_all}
use Rattle.expr_places.specs.Places.{is_other}
use Rattle.expr_places.proofs.used.are_other_keys.Given as goal

abbrev pub invariant-loop-other : goal.invariant-loop-other
invariant-loop-other l = list_all (λ k. is_other l.column k.0) (drop l.other-index l.keys) ≡ list_all (λ k. is_other l.column k.0) l.keys
