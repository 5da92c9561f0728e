use Rattle.std.proofs.Common.{◌≡◌, ◌+◌, map, drop}
use Rattle.table_store.specs.Creating.{place_of}
use Rattle.table_store.proofs.shaping.place_among.Given as goal

abbrev pub invariant-loop-projection : goal.invariant-loop-projection
invariant-loop-projection l = record {
  at : l.place ≡ l.projection-index;
  ahead : l.place + place_of l.name (map (λ p. p.name) (drop l.projection-index l.projections)) ≡ place_of l.name (map (λ p. p.name) l.projections);
}
