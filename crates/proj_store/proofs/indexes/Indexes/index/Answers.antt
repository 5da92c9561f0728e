use Rattle.std.specs.Prelude.{Some}
use Rattle.col_disk.proofs.Moving.{moved_none}
use Rattle.ros_container.specs.Encodings.{written_of}
use Rattle.container_blocks.proofs.Faults.{index_blamed}
use Rattle.container_blocks.proofs.Indexes.{place_told}
use Rattle.proj_store.proofs.indexes.Indexes.index.Goals as goal

pub returns-in-Some-clause-blamed : goal.returns-in-Some-clause-blamed
returns-in-Some-clause-blamed g c =
    let p = c.args.shape.now in
    let k = c.args.entry.now in
    index_blamed (written_of p) k c.args.column c.in-Some.place c.index_of.result (g.D.Disk.holds c.args.disk.now) c.read.result (place_told p k c.args.column (Some c.in-Some.place) c.in-Some.ensures) c.index_of.ensures
    c.read.ensures.blamed
