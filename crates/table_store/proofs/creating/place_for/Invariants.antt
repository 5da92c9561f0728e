use Rattle.std.proofs.Common.{◌≡◌, ◌+◌, map, drop}
use Rattle.table_store.specs.Creating.{place_of}
use Rattle.table_store.proofs.creating.place_for.Given as goal

abbrev pub invariant-loop-table : goal.invariant-loop-table
invariant-loop-table l = record {
  at : l.place ≡ l.table-index;
  ahead : l.place + place_of l.name (map (λ t. t.name) (drop l.table-index l.tables)) ≡ place_of l.name (map (λ t. t.name) l.tables);
}
