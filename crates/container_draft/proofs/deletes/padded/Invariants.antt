use Rattle.std.proofs.Common.{◌≡◌, ◌+◌, ◌-◌, ◌≤◌, map, get_or}
use Rattle.std.specs.Prelude.{None}
use Rattle.std.specs.List.{range_with_len}
use Rattle.std.specs.Vec.{vec_len, vec_capacity}
use Rattle.container_draft.proofs.deletes.padded.Given as goal

abbrev pub invariant-loop-place : goal.invariant-loop-place
invariant-loop-place l = record {
  room : vec_len l.out + (l.count - l.place) ≤ vec_capacity l.out;
  deletes : l.out.items ≡ map (λ i. get_or l.dels i None) (range_with_len 0 l.place);
}
