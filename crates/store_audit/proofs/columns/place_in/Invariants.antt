use Rattle.std.proofs.Common.{◌≡◌, ◌+◌, length, map}
use Rattle.audit_model.specs.Pairs.{place_in}
use Rattle.store_audit.proofs.columns.place_in.Given as goal

abbrev pub decreases-loop-rest : goal.decreases-loop-rest
decreases-loop-rest l = length l.rest

abbrev pub invariant-loop-rest : goal.invariant-loop-rest
invariant-loop-rest l = record {
  ahead : l.place + place_in (map (λ k. k.ordinal) l.rest) l.ordinal ≡ place_in (map (λ k. k.ordinal) l.columns) l.ordinal;
  long : l.place + length l.rest ≡ length l.columns;
}
