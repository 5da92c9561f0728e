use Rattle.std.proofs.Common.{◌≡◌, drop, true}
use Rattle.std.specs.List.{list_all}
use Rattle.std.specs.Option.{option_map_or}
use Rattle.expr_places.specs.Places.{is_other, looks_only}
use Rattle.expr_places.proofs.used.aggregates_look_away.Given as goal

abbrev pub invariant-loop-aggregate : goal.invariant-loop-aggregate
invariant-loop-aggregate l = list_all (λ a. option_map_or (looks_only (is_other l.column)) a.arg true) (drop l.aggregate-index l.aggs) ≡ list_all (λ a. option_map_or (looks_only (is_other l.column)) a.arg true) l.aggs
