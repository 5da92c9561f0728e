use Rattle.std.proofs.Common.{◌≡◌, ◌<◌, length, sym, ◌∙◌, ap, subst, arith}
use Rattle.catalog_types.specs.declared.catalogue.Projection.{Projection}
use Rattle.col_disk.proofs.Moving.{moved_none}
use Rattle.container_draft.specs.Draft.{IsDraft}
use Rattle.ros_container.specs.Encodings.{written_of}
use Rattle.mergeout_job.specs.Merged.{merged}
use Rattle.purge_job.proofs.Vectors.{loads_blamed}
use Rattle.merge_rows.specs.Inputs.{KeepsFrom}
use Rattle.moveout_job.specs.OnDisk.{IsListedBelow}
use Rattle.proj_store.specs.Reading.{HasVectors}
use Rattle.table_jobs.specs.Working.{working, IsUnderWay, IsWhole, Working}
use Rattle.table_jobs.proofs.Holding.{reached_later}
use Rattle.table_jobs.proofs.UnderWay.{under_way_merging}
use Rattle.table_jobs.proofs.Writing.{later_moved, listed_below}
use Rattle.table_jobs.proofs.working.MergeWork.end.Goals as goal

pub returns-then-self-ge-MOST_NUMBERS-clause-moved : goal.returns-then-self-ge-MOST_NUMBERS-clause-moved
returns-then-self-ge-MOST_NUMBERS-clause-moved g c = moved_none g.D.Disk c.args.disk.now

pub returns-in-Ok-clause-later : goal.returns-in-Ok-clause-later
returns-in-Ok-clause-later g c =
    let is = c.in-Ok.ensures.entry in
    let epoch = ap (λ (p : Projection). p.lge) is.is in
    let rises = reached_later c.args.p.now.stored.entry.lge (merged c.self.inside.job is.made is.others is.memory) in
    omega (arith, epoch, rises)

pub returns-in-Ok-clause-keeps : goal.returns-in-Ok-clause-keeps
returns-in-Ok-clause-keeps g c = λ m n told_m told_n.
    let p = c.args.p.now.stored in
    let w = working c.self.inside.table c.self.inside.place c.self.inside.entry c.self.inside.job in
    let entry : p.entry ≡ w.entry = c.requires.same ∙ ap (λ (x : Working). x.entry) (sym c.self.view_is) in
    let all : IsWhole w = subst IsWhole (sym c.self.view_is) c.requires.whole in
    let whole : length p.entry.columns < w.job.draft.done = subst (λ (e : Projection). length e.columns < w.job.draft.done) (sym entry) all in
    subst (λ (x : Working). IsListedBelow x.job.draft.base p.entry → HasVectors m p → IsUnderWay m x → KeepsFrom x.job.merge.mark m n p c.in-Ok.merged.entry) c.self.view_is
    (λ below vectors under.
    c.in-Ok.ensures.keeps m n told_m told_n (listed_below w.job.draft.base p.entry (omega arith) below)
    (under_way_merging c.one_vector.ensures m w p entry vectors under) (subst (λ (e : Projection). IsDraft m (written_of e) w.job.draft) (sym entry) under.draft) whole)

pub returns-in-Ok-clause-loads : goal.returns-in-Ok-clause-loads
returns-in-Ok-clause-loads g c = λ below fault blames.
    let base : c.self.inside.job.draft.base ≡ c.args.self.now.job.draft.base = ap (λ (x : Working). x.job.draft.base) c.self.view_is in
    loads_blamed g.D.Disk c.args.p.now.stored.entry c.in-Ok.merged.entry c.args.self.now.job.draft.base c.in-Ok.merged.next fault c.entry.ensures.sound.loadable below
    (later_moved g.D.Disk c.args.self.now.job.draft.base (omega (arith, base)) c.install.ensures.moved)
    c.in-Ok.ensures.vectors blames
