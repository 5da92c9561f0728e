use Rattle.std.proofs.Common.{◌≡◌, ℕ, subst, sym}
use Rattle.col_disk.specs.Moved.{Either, Moved, Named, NoName}
use Rattle.ros_container.specs.Files.{body_of, index_of}
use Rattle.table_jobs.specs.Going.{IsOver}
use Rattle.table_jobs.specs.Remaking.{IsMadeOver}
use Rattle.table_jobs.specs.Working.{IsOfStore}
use Rattle.table_jobs.specs.declared.work.Work.TheVariants.{Merge, Refresh}
use Rattle.table_jobs.proofs.work.advance_work.Goals as goal

pub returns-in-Merge-clause-moved : goal.returns-in-Merge-clause-moved
returns-in-Merge-clause-moved g c =
    let w = c.in-Merge.work in
    let here = c.in-Merge.work-is in
    let is : c.args.work.now ≡ Merge w = cc in
    let over : IsOfStore c.args.store.now w = subst (IsOver c.args.store.now) is c.requires in
    let column = w.job.draft.done in
    (column, subst (λ (n : ℕ). Moved g.D.Disk (Either (Named (body_of n column)) (Named (index_of n column))) NoName c.args.disk.now c.advance_merge.new.disk) (sym over.next) c.advance_merge.ensures.moved)

pub returns-in-Refresh-clause-moved : goal.returns-in-Refresh-clause-moved
returns-in-Refresh-clause-moved g c =
    let w = c.in-Refresh.work in
    let here = c.in-Refresh.work-is in
    let is : c.args.work.now ≡ Refresh w = cc in
    let over : IsMadeOver c.args.store.now w = subst (IsOver c.args.store.now) is c.requires in
    let column = w.job.draft.done in
    (column, subst (λ (n : ℕ). Moved g.D.Disk (Either (Named (body_of n column)) (Named (index_of n column))) NoName c.args.disk.now c.advance_refresh.new.disk) (sym over.next) c.advance_refresh.ensures.moved)
