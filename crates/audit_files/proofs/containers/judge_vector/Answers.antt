use Rattle.audit_files.proofs.Vectors.{vector_spelled, vector_blamed}
use Rattle.audit_files.proofs.containers.judge_vector.Goals as goal

pub returns-in-Err-clause-judged : goal.returns-in-Err-clause-judged
returns-in-Err-clause-judged g c = vector_blamed c.args.shape.now c.args.entry.now (g.D.Disk.holds c.args.disk.now) c.in-Err.fault c.in-Err.ensures.blamed

pub returns-clause-judged : goal.returns-clause-judged
returns-clause-judged g c = λ m told. vector_spelled m c.args.shape.now c.args.entry.now c.args.entry.now.marks c.in-Ok.vector.marks (c.in-Ok.ensures.found m told)
