use Rattle.std.proofs.Common.{◌≡◌, ◌∷◌, ◌+◌, sym, subst}
use Rattle.std.specs.Prelude.{List, drop}
use Rattle.std.proofs.Math.Seq.{drop-cons}
use Rattle.col_disk.specs.declared.did.Did.{Did}
use Rattle.col_disk.specs.Crashing.{StepsTo}
use Rattle.col_disk.specs.Memory.{held_by}
use Rattle.col_disk.proofs.Crashed.{steps_more}
use Rattle.col_disk.proofs.memory.MemDisk.replay_picked.Goals as goal

pub loop-did-preserved : goal.loop-did-preserved
loop-did-preserved c = λ m steps.
    c.loop-did.invariant m (steps_more c.args.dids.now c.loop-did.did-index c.did-item.result c.loop-did-test.true c.did-item.is _ _ m c.in_ok-redo_picked.ensures steps)
