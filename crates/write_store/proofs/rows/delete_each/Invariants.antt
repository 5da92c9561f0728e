use Rattle.std.proofs.Common.{◌≡◌, take, map, length}
use Rattle.write_store.specs.Memory.{stamp, AreHeldRows, deleted_at}
use Rattle.write_store.proofs.rows.delete_each.Given as goal

abbrev pub invariant-loop-place : goal.invariant-loop-place
invariant-loop-place l = record {
  rows : map stamp l.rows ≡ deleted_at l.epoch (take l.place-index l.places) (map stamp l.fn.rows);
  valid : AreHeldRows l.fn.rows → AreHeldRows l.rows;
  long : length l.rows ≡ length l.fn.rows;
}
