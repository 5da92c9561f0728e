use Rattle.std.proofs.Common.{◌≡◌, sym, subst}
use Rattle.col_disk.proofs.Moving.{moved_none}
use Rattle.container_draft.specs.Draft.{IsDraft}
use Rattle.ros_container.specs.Encodings.{written_of}
use Rattle.table_jobs.specs.Remaking.{Remaking}
use Rattle.table_jobs.proofs.remaking.RefreshWork.write_next.Goals as goal

pub returns-then-self-ge-MOST_NUMBERS-clause-moved : goal.returns-then-self-ge-MOST_NUMBERS-clause-moved
returns-then-self-ge-MOST_NUMBERS-clause-moved g c = moved_none g.D.Disk c.args.disk.now

pub returns-then-self-as_slice-clause-moved : goal.returns-then-self-as_slice-clause-moved
returns-then-self-as_slice-clause-moved g c = moved_none g.D.Disk c.args.disk.now

pub returns-clause-draft : goal.returns-clause-draft
returns-clause-draft g c = λ m n told left draft.
    let own : IsDraft m (written_of c.self.inside.shape) c.self.inside.job.draft = subst (λ (w : Remaking). IsDraft m (written_of w.shape) w.job.draft) (sym c.self.view_is) draft in
    subst (λ (w : Remaking). IsDraft n (written_of w.shape) c.advance.new.self.draft) c.self.view_is (c.in-Ok.ensures.draft m n told left own)
