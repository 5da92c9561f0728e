use Rattle.std.proofs.Common.{arith}
use Rattle.col_disk.proofs.Moving.{moved_none}
use Rattle.ros_container.specs.Encodings.{written_of}
use Rattle.container_cut.proofs.Joins.{same_between}
use Rattle.container_cut.proofs.containers.cut_container.Goals as goal

pub returns-clause-cut : goal.returns-clause-cut
returns-clause-cut g c = same_between (written_of c.args.shape.now) c.args.epoch c.args.container.now (g.D.Disk.holds c.args.disk.now) (omega arith) (omega arith)

pub returns-clause-moved : goal.returns-clause-moved
returns-clause-moved g c = moved_none g.D.Disk c.args.disk.now
