use Rattle.std.proofs.Common.{◌≡◌, ◌∙◌, ap, sym, subst}
use Rattle.catalog_types.specs.declared.catalogue.Projection.{Projection}
use Rattle.col_disk.proofs.Moving.{moved_none}
use Rattle.container_draft.specs.Draft.{IsDraft}
use Rattle.ros_container.specs.Encodings.{written_of}
use Rattle.table_jobs.specs.Working.{Working}
use Rattle.table_jobs.proofs.working.MergeWork.write_next.Goals as goal

pub returns-then-self-ge-MOST_NUMBERS-clause-moved : goal.returns-then-self-ge-MOST_NUMBERS-clause-moved
returns-then-self-ge-MOST_NUMBERS-clause-moved g c = moved_none g.D.Disk c.args.disk.now

pub returns-then-self-as_slice-clause-moved : goal.returns-then-self-as_slice-clause-moved
returns-then-self-as_slice-clause-moved g c = moved_none g.D.Disk c.args.disk.now

pub returns-clause-draft : goal.returns-clause-draft
returns-clause-draft g c = λ m n told left draft.
    let entry : c.args.p.now.stored.entry ≡ c.self.inside.entry = c.requires ∙ ap (λ (w : Working). w.entry) (sym c.self.view_is) in
    let own : IsDraft m (written_of c.self.inside.entry) c.self.inside.job.draft = subst (λ (w : Working). IsDraft m (written_of w.entry) w.job.draft) (sym c.self.view_is) draft in
    subst (λ (e : Projection). IsDraft n (written_of e) c.advance.new.self.draft) c.requires
    (c.in-Ok.ensures.draft m n told left (subst (λ (e : Projection). IsDraft m (written_of e) c.self.inside.job.draft) (sym entry) own))
