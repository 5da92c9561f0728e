use Rattle.std.proofs.Common.{◌≡◌, drop}
use Rattle.col_disk.specs.Moved.{Moved, NoName}
use Rattle.store_audit.specs.Passes.{pairs_of}
use Rattle.store_audit.proofs.Firsts.{FoundAhead}
use Rattle.store_audit.proofs.pairs.judge_against.Given as goal

abbrev pub invariant-loop-second : goal.invariant-loop-second
invariant-loop-second g l = record {
  ahead : FoundAhead (g.D.Disk.holds l.fn.disk) l.bounds.epoch l.bounds.mark (pairs_of l.table l.first (drop l.second-index l.others)) (pairs_of l.table l.first l.others);
  kept : g.D.Disk.holds l.disk ≡ g.D.Disk.holds l.fn.disk;
  moved : Moved g.D.Disk NoName NoName l.fn.disk l.disk;
}
