use Rattle.std.proofs.Common.{◌≡◌, drop}
use Rattle.col_disk.specs.Picks.{noted_all}
use Rattle.col_disk.proofs.memory.crash.note_all.Given as goal

abbrev pub invariant-loop-did : goal.invariant-loop-did
invariant-loop-did l = noted_all l.written.entries (drop l.did-index l.dids) ≡ noted_all l.fn.written.entries l.dids
