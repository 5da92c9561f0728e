use Rattle.std.proofs.Common.{◌≡◌, take, map, length}
use Rattle.std.specs.List.{AllZip}
use Rattle.proj_store.specs.Loaded.{beside_of, room_of}
use Rattle.proj_store.specs.Marking.{HasRoom}
use Rattle.proj_store.proofs.marking.reserve_each.Given as goal

abbrev pub invariant-loop-i : goal.invariant-loop-i
invariant-loop-i l = record {
  long : length l.kept ≡ length l.fn.kept;
  beside : map beside_of l.kept ≡ map beside_of l.fn.kept;
  room : AllZip HasRoom (take l.i l.each) (take l.i (map room_of l.kept));
}
