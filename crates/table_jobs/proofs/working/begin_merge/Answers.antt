use Rattle.std.proofs.Common.{◌≡◌, ◌≤◌, ◌∙◌, ℕ, length, sym, ap, subst}
use Rattle.catalog_types.specs.declared.catalogue.Catalogue.{Catalogue}
use Rattle.catalog_types.specs.declared.catalogue.Projection.{Projection}
use Rattle.col_disk.proofs.Moving.{moved_none}
use Rattle.mergeout_job.specs.Oldest.{AreFour, HasFour}
use Rattle.table_jobs.specs.Working.{working}
use Rattle.table_jobs.proofs.Holding.{IsOwnAt}
use Rattle.table_jobs.proofs.Raising.{IsRooted}
use Rattle.table_jobs.proofs.Rooted.{of_own, own_fresh, own_narrow, own_there, own_valid}
use Rattle.table_jobs.proofs.UnderWay.{begins_under_way, own_has_entry}
use Rattle.table_jobs.proofs.working.begin_merge.Goals as goal

pub returns-in-Err-clause-moved : goal.returns-in-Err-clause-moved
returns-in-Err-clause-moved g c = moved_none g.D.Disk c.args.disk.now

pub begin-requires : goal.begin-requires
begin-requires g c =
    let rooted : IsRooted c.args.store.now c.root-root.result.now = record { catalogue = c.root-root.ensures.root; entries = c.root-root.ensures.entries; valid = c.root-root.ensures.valid } in
    let p = c.index-as_slice-place.result.stored in
    let own : IsOwnAt c.args.store.now.stores c.args.table c.args.place p =
    own_there c.tables.result.now c.args.store.now.stores c.args.table c.args.place c.index-tables-table.result c.as_slice.result.now c.index-as_slice-place.result c.tables.ensures c.requires.fresh c.index-tables-table.is c.as_slice.ensures c.index-as_slice-place.is in
    of_own c.args.store.now c.root-root.result.now c.args.table c.args.place p (λ q. HasFour c.args.level q.containers) rooted own c.requires.four

pub invariant_of-result : goal.invariant_of-result
invariant_of-result g c =
    let rooted : IsRooted c.args.store.now c.root-root.result.now = record { catalogue = c.root-root.ensures.root; entries = c.root-root.ensures.entries; valid = c.root-root.ensures.valid } in
    let p = c.index-as_slice-place.result.stored in
    let own : IsOwnAt c.args.store.now.stores c.args.table c.args.place p =
    own_there c.tables.result.now c.args.store.now.stores c.args.table c.args.place c.index-tables-table.result c.as_slice.result.now c.index-as_slice-place.result c.tables.ensures c.requires.fresh c.index-tables-table.is c.as_slice.ensures c.index-as_slice-place.is in
    let entry : c.in-Ok.entry ≡ p.entry = c.in-Ok.ensures ∙ c.entry.ensures.entry in
    let job = c.in-Ok-begin.job in
    record {
      base_is = c.in-Ok-begin.ensures.base;
      mark_is = c.in-Ok-begin.ensures.mark;
      done_is = c.in-Ok-begin.ensures.done;
      four = subst (λ (e : Projection). AreFour job.level job.merge.inputs e.containers) (sym entry) (subst (λ (n : ℕ). AreFour n job.merge.inputs p.entry.containers) (sym c.in-Ok-begin.ensures.level) c.in-Ok-begin.ensures.four);
      narrow = subst (λ (e : Projection). length e.columns ≤ 64) (sym entry) (own_narrow c.root-root.result.now p.entry (own_valid c.args.store.now c.root-root.result.now c.args.table c.args.place p rooted own));
    }

pub returns-in-Ok-begin-clause-begun : goal.returns-in-Ok-begin-clause-begun
returns-in-Ok-begin-clause-begun g c = λ d m stands told.
    let rooted : IsRooted c.args.store.now c.root-root.result.now = record { catalogue = c.root-root.ensures.root; entries = c.root-root.ensures.entries; valid = c.root-root.ensures.valid } in
    let p = c.index-as_slice-place.result.stored in
    let own : IsOwnAt c.args.store.now.stores c.args.table c.args.place p =
    own_there c.tables.result.now c.args.store.now.stores c.args.table c.args.place c.index-tables-table.result c.as_slice.result.now c.index-as_slice-place.result c.tables.ensures c.requires.fresh c.index-tables-table.is c.as_slice.ensures c.index-as_slice-place.is in
    begins_under_way g.D.Disk c.args.disk.now c.args.store.now c.root-root.result.now c.args.table c.args.place p (working c.args.table c.args.place c.in-Ok.entry c.in-Ok-begin.job) d m rooted own
    (own_fresh c.args.store.now.stores c.args.table c.args.place p c.requires.fresh own) (c.in-Ok.ensures ∙ c.entry.ensures.entry) c.in-Ok-begin.ensures.mark
    (c.in-Ok-begin.ensures.begun m told) (c.in-Ok-begin.ensures.draft m told) stands told

pub returns-in-Ok-begin-clause-over : goal.returns-in-Ok-begin-clause-over
returns-in-Ok-begin-clause-over g c =
    let s = c.args.store.now in
    let p = c.index-as_slice-place.result.stored in
    let own : IsOwnAt s.stores c.args.table c.args.place p =
    own_there c.tables.result.now s.stores c.args.table c.args.place c.index-tables-table.result c.as_slice.result.now c.index-as_slice-place.result c.tables.ensures c.requires.fresh c.index-tables-table.is c.as_slice.ensures c.index-as_slice-place.is in
    let entry : c.in-Ok.entry ≡ p.entry = c.in-Ok.ensures ∙ c.entry.ensures.entry in
    record {
      own = own_has_entry s.stores c.args.table c.args.place p c.in-Ok.entry own entry;
      fresh = ap (λ (e : Projection). e.fresh) entry ∙ own_fresh s.stores c.args.table c.args.place p c.requires.fresh own;
      next = ap (λ (k : Catalogue). k.next) c.root-root.ensures.root ∙ sym c.in-Ok-begin.ensures.base;
      mark = ap (λ (k : Catalogue). k.ahm) c.root-root.ensures.root ∙ sym c.in-Ok-begin.ensures.mark;
    }
