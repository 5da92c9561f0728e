use Rattle.std.specs.Prelude.{Some}
use Rattle.col_disk.proofs.Moving.{moved_none}
use Rattle.ros_container.specs.Encodings.{written_of}
use Rattle.container_blocks.proofs.Faults.{index_blamed}
use Rattle.container_blocks.proofs.Indexes.{place_told}
use Rattle.container_blocks.proofs.reading.index.Goals as goal

pub returns-in-Some-clause-blamed : goal.returns-in-Some-clause-blamed
returns-in-Some-clause-blamed g c =
    let p = c.args.shape.now in
    let k = c.args.entry.now in
    index_blamed (written_of p) k c.args.column c.in-Some.place c.index_of-index.result (g.D.Disk.holds c.args.disk.now) c.read_index.result (place_told p k c.args.column (Some c.in-Some.place) c.in-Some.ensures) c.index_of-index.ensures
    c.read_index.ensures.blamed

pub returns-in-Ok-clause-moved : goal.returns-in-Ok-clause-moved
returns-in-Ok-clause-moved g c = moved_none g.D.Disk c.args.disk.now

pub returns-in-Err-clause-moved : goal.returns-in-Err-clause-moved
returns-in-Err-clause-moved g c = moved_none g.D.Disk c.args.disk.now
