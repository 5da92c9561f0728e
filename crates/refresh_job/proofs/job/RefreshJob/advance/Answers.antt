use Rattle.std.proofs.Common.{◌≡◌, subst}
use Rattle.std.specs.Prelude.{Some, OnOk}
use Rattle.common_laws.specs.Maps.{Contents}
use Rattle.ros_container.specs.Encodings.{written_of}
use Rattle.container_draft.specs.Draft.{IsDraft}
use Rattle.refresh_job.specs.Job.{Refreshing}
use Rattle.refresh_job.proofs.job.RefreshJob.advance.Goals as goal

pub returns-clause-draft : goal.returns-clause-draft
returns-clause-draft g c =
    subst
    (λ (r : Refreshing). OnOk c.advance.result ((m n : Contents) → g.D.Disk.holds c.args.disk.now ≡ Some m → g.D.Disk.holds c.advance.new.disk ≡ Some n → IsDraft m (written_of c.args.shape.now) r.draft → IsDraft n (written_of c.args.shape.now) c.advance.new.self))
    c.self.view_is c.advance.ensures.goes_on
