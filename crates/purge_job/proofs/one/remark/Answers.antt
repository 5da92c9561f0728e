use Rattle.std.proofs.Common.{refl}
use Rattle.ros_container.specs.Encodings.{written_of}
use Rattle.purge_job.proofs.Anew.{disk_blames, remarked_loads, remarks_purge}
use Rattle.purge_job.proofs.Vectors.{one_vector}
use Rattle.purge_job.proofs.one.remark.Goals as goal

pub returns-in-Ok-clause-purged : goal.returns-in-Ok-clause-purged
returns-in-Ok-clause-purged g c =
    remarks_purge c.args.mark c.args.next c.in-Ok.marked.next (written_of c.args.shape.now) c.args.container.now c.in-Ok.marked.entry c.args.held.now c.args.fresh.now (g.D.Disk.holds c.args.disk.now) (g.D.Disk.holds c.mark_one.new.disk)
    c.requires.held c.requires.fresh c.in-Ok.ensures.held

pub returns-in-Ok-clause-loads : goal.returns-in-Ok-clause-loads
returns-in-Ok-clause-loads g c =
    remarked_loads c.args.shape.now.columns c.args.next c.in-Ok.marked.next c.args.container.now c.in-Ok.marked.entry c.in-Ok.ensures.entry c.requires.readable c.requires.vector

pub returns-in-Ok-clause-vector : goal.returns-in-Ok-clause-vector
returns-in-Ok-clause-vector g c = λ n told. one_vector c.in-Ok.marked.next n c.args.container.now c.in-Ok.marked.entry (c.in-Ok.ensures.vector n told)
