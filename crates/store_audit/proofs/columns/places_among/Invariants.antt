use Rattle.std.proofs.Common.{◌≡◌, map, take}
use Rattle.audit_model.specs.Pairs.{place_in}
use Rattle.store_audit.proofs.columns.places_among.Given as goal

abbrev pub invariant-loop-column : goal.invariant-loop-column
invariant-loop-column l = l.places.items ≡ map (λ k. place_in (map (λ c. c.ordinal) l.columns) k.ordinal) (take l.column-index l.others)
