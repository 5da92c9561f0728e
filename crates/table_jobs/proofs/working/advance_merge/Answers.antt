use Rattle.std.proofs.Common.{◌≡◌, ◌∙◌, ℕ, sym, ap, subst}
use Rattle.catalog_types.specs.declared.catalogue.Catalogue.{Catalogue}
use Rattle.col_disk.specs.Moved.{Moved, NoName}
use Rattle.container_writer.specs.Writing.{DataFrom}
use Rattle.moveout_job.specs.OnDisk.{IsListedBelow}
use Rattle.table_jobs.specs.Working.{working, Working}
use Rattle.table_jobs.proofs.Holding.{IsOwnAt}
use Rattle.table_jobs.proofs.Raising.{IsRooted}
use Rattle.table_jobs.proofs.Rooted.{own_below, own_valid}
use Rattle.table_jobs.proofs.UnderWay.{goes_under_way, own_is, stays_while, work_own}
use Rattle.table_jobs.proofs.Writing.{column_moved}
use Rattle.table_jobs.proofs.working.advance_merge.Goals as goal

pub returns-clause-goes_on : goal.returns-clause-goes_on
returns-clause-goes_on g c =
    let s = c.args.store.now in
    let w = c.args.work.now in
    let root = c.root-root.result.now in
    let rooted : IsRooted s root = record { catalogue = c.root-root.ensures.root; entries = c.root-root.ensures.entries; valid = c.root-root.ensures.valid } in
    let p = c.index-as_slice-work.result.stored in
    let own : IsOwnAt s.stores w.table w.place p = subst (λ (x : Working). IsOwnAt s.stores x.table x.place p) c.work.view_is
    (work_own c.tables.result.now s (working c.work.inside.table c.work.inside.place c.work.inside.entry c.work.inside.job) c.args.work.now c.index-tables-work.result c.as_slice.result.now c.index-as_slice-work.result c.work.view_is c.requires c.tables.ensures c.index-tables-work.is c.as_slice.ensures c.index-as_slice-work.is) in
    let next : w.job.draft.base ≡ root.next = sym c.requires.next ∙ ap (λ (k : Catalogue). k.next) rooted.catalogue in
    let below : IsListedBelow root.next w.entry = subst (IsListedBelow root.next) (own_is s.stores w.table w.place p w.entry own c.requires.own) (own_below root p.entry (own_valid s root w.table w.place p rooted own)) in
    let moved : Moved g.D.Disk (DataFrom root.next) NoName c.args.disk.now c.write_next.new.disk =
    subst (λ (n : ℕ). Moved g.D.Disk (DataFrom n) NoName c.args.disk.now c.write_next.new.disk) next (column_moved g.D.Disk w.job.draft.base w.job.draft.done c.write_next.ensures.moved) in
    goes_under_way g.D.Disk c.write_next.result root.next w c.write_next.new.self below moved c.write_next.ensures.more c.write_next.ensures.draft

pub returns-clause-stays : goal.returns-clause-stays
returns-clause-stays g c = λ d stands.
    let s = c.args.store.now in
    let w = c.args.work.now in
    let root = c.root-root.result.now in
    let rooted : IsRooted s root = record { catalogue = c.root-root.ensures.root; entries = c.root-root.ensures.entries; valid = c.root-root.ensures.valid } in
    let p = c.index-as_slice-work.result.stored in
    let own : IsOwnAt s.stores w.table w.place p = subst (λ (x : Working). IsOwnAt s.stores x.table x.place p) c.work.view_is
    (work_own c.tables.result.now s (working c.work.inside.table c.work.inside.place c.work.inside.entry c.work.inside.job) c.args.work.now c.index-tables-work.result c.as_slice.result.now c.index-as_slice-work.result c.work.view_is c.requires c.tables.ensures c.index-tables-work.is c.as_slice.ensures c.index-as_slice-work.is) in
    let next : w.job.draft.base ≡ root.next = sym c.requires.next ∙ ap (λ (k : Catalogue). k.next) rooted.catalogue in
    let moved : Moved g.D.Disk (DataFrom root.next) NoName c.args.disk.now c.write_next.new.disk =
    subst (λ (n : ℕ). Moved g.D.Disk (DataFrom n) NoName c.args.disk.now c.write_next.new.disk) next (column_moved g.D.Disk w.job.draft.base w.job.draft.done c.write_next.ensures.moved) in
    stays_while g.D.Disk s root w.table w.place p d rooted own moved stands
