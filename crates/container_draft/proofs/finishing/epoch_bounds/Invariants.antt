use Rattle.std.proofs.Common.{◌≤◌, take}
use Rattle.std.specs.List.{All}
use Rattle.container_draft.specs.Placed.{asked_at}
use Rattle.container_draft.proofs.finishing.epoch_bounds.Given as goal

abbrev pub invariant-loop-place : goal.invariant-loop-place
invariant-loop-place l = record {
  least : All (λ i. l.least ≤ (asked_at l.rows i).ins) (take l.place-index l.places);
  greatest : All (λ i. (asked_at l.rows i).ins ≤ l.greatest) (take l.place-index l.places);
}
