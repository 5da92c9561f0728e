use Rattle.std.proofs.Common.{sym, ◌∙◌, ap, arith}
use Rattle.std.specs.Prelude.{List}
use Rattle.std.proofs.lemmas.List.{drop_all}
use Rattle.col_disk.specs.declared.did.Did.{Did}
use Rattle.col_disk.specs.Dids.{replayed}
use Rattle.col_disk.specs.Memory.{held_by}
use Rattle.col_disk.proofs.memory.MemDisk.replay.Goals as goal

pub returns : goal.returns
returns c =
    ap (λ (ds : List Did). replayed (held_by c.loop-did.self) ds) (sym (drop_all c.loop-did.did-index c.args.dids.now (omega (arith, c.loop-did-test.false, c.loop-did.auto.did-index-end)))) ∙ c.loop-did.invariant
