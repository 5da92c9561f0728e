use Rattle.std.proofs.Common.{refl, inl}
use Rattle.col_disk.proofs.Moving.{moved_none}
use Rattle.moveout_job.proofs.others.mark_if.Goals as goal

pub returns-then-left_out-clause-moved : goal.returns-then-left_out-clause-moved
returns-then-left_out-clause-moved g c = moved_none g.D.Disk c.args.disk.now

pub returns-then-left_out-clause-vector : goal.returns-then-left_out-clause-vector
returns-then-left_out-clause-vector g c = λ n told. inl refl
