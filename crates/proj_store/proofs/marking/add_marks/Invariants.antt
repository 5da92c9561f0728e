use Rattle.std.proofs.Common.{◌≡◌, ◌-◌, ◌≤◌, ◌++◌, take, length}
use Rattle.std.specs.Vec.{vec_len, vec_capacity}
use Rattle.proj_store.specs.Marking.{marks_at}
use Rattle.proj_store.proofs.marking.add_marks.Given as goal

abbrev pub invariant-loop-place : goal.invariant-loop-place
invariant-loop-place l = record {
  joined : l.fresh.items ≡ l.fn.fresh.items ++ marks_at l.epoch (take l.place-index l.places);
  room : length l.places - l.place-index ≤ vec_capacity l.fresh - vec_len l.fresh;
}
