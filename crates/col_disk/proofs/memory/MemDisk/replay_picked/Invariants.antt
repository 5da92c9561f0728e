use Rattle.std.specs.Prelude.{drop}
use Rattle.common_laws.specs.Maps.{Contents}
use Rattle.col_disk.specs.Crashing.{StepsTo}
use Rattle.col_disk.specs.Memory.{held_by}
use Rattle.col_disk.proofs.memory.MemDisk.replay_picked.Given as goal

abbrev pub invariant-loop-did : goal.invariant-loop-did
invariant-loop-did l = (c : Contents) → StepsTo (drop l.did-index l.dids) (held_by l.self) c → StepsTo l.dids (held_by l.fn.self) c
