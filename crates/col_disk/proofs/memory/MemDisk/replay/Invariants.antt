use Rattle.std.proofs.Common.{◌≡◌}
use Rattle.std.specs.Prelude.{drop}
use Rattle.col_disk.specs.Dids.{replayed}
use Rattle.col_disk.specs.Memory.{held_by}
use Rattle.col_disk.proofs.memory.MemDisk.replay.Given as goal

abbrev pub invariant-loop-did : goal.invariant-loop-did
invariant-loop-did l = replayed (held_by l.self) (drop l.did-index l.dids) ≡ replayed (held_by l.fn.self) l.dids
