use Rattle.std.proofs.Common.{List, ℕ, subst}
use Rattle.col_disk.proofs.Moving.{moved_none}
use Rattle.refresh_job.specs.Job.{IsRefreshing}
use Rattle.refresh_job.proofs.job.begin.Goals as goal

pub returns-then-len-as_slice-clause-moved : goal.returns-then-len-as_slice-clause-moved
returns-then-len-as_slice-clause-moved g c = moved_none g.D.Disk c.args.disk.now

pub returns-in-Ok-clause-begun : goal.returns-in-Ok-clause-begun
returns-in-Ok-clause-begun g c = λ m told vectors.
    subst (λ (vs : List ℕ). IsRefreshing m c.args.source.now.stored (record { mark = c.args.mark; via = vs; draft = c.in-Ok.draft })) c.as_slice-2.ensures.value (c.in-Ok.ensures.begun m told)
