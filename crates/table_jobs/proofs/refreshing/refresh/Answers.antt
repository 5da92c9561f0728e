use Rattle.std.proofs.Common.{◌≡◌, ◌≤◌, [], length, sym, ◌∙◌, subst}
use Rattle.col_disk.specs.declared.disk.StoreFault.TheVariants as fault
use Rattle.col_disk.specs.Faults.{IsUnblamed}
use Rattle.col_value.specs.declared.row.Stamped.{Stamped}
use Rattle.std.specs.Prelude.{List, Some}
use Rattle.std.proofs.lemmas.Result.{on_ok_weaker}
use Rattle.common_laws.specs.Maps.{Contents}
use Rattle.catalog_types.specs.declared.catalogue.Projection.{Projection}
use Rattle.db_model.specs.Database.{Database}
use Rattle.sound_laws.specs.Moves.{reached_at}
use Rattle.store_commit.specs.Seen.{Stands}
use Rattle.stored_rows.specs.Held.{Holds}
use Rattle.container_cut.proofs.Faults.{on_errs}
use Rattle.proj_store.specs.Reading.{BlamesLoad}
use Rattle.table_store.specs.Faults.{BlamesHeld}
use Rattle.table_store.specs.Installing.{IsRenewal}
use Rattle.table_store.proofs.Moves.{entry_held}
use Rattle.table_jobs.proofs.Named.{made_named}
use Rattle.table_jobs.proofs.Raising.{IsRooted}
use Rattle.table_jobs.proofs.Remade.{nothing_made, of_fault, remade_holds, remake_fails, remake_unblamed, remakes}
use Rattle.table_jobs.proofs.Rooted.{own_narrow, own_renewal}
use Rattle.table_jobs.proofs.There.{IsSource, IsTarget, has_reached, parts_there, source, stale_bare, target}
use Rattle.table_jobs.proofs.refreshing.refresh.Goals as goal

pub bounds-parts-place : goal.bounds-parts-place
bounds-parts-place g c =
    let rooted : IsRooted c.args.store.now c.root-root.result.now = record { catalogue = c.root-root.ensures.root; entries = c.root-root.ensures.entries; valid = c.root-root.ensures.valid } in
    parts_there c.args.store.now c.root-root.result.now c.args.table c.args.place c.tables.result.now c.index-tables-table.result c.as_slice-parts.result.now rooted c.tables.ensures c.requires.stale c.index-tables-table.is c.as_slice-parts.ensures

pub returns-in-None-clause-made : goal.returns-in-None-clause-made
returns-in-None-clause-made g c = λ d stands.
    nothing_made g.D.Disk c.args.disk.now c.args.store.now fault.Memory d (reached_at d.last c.args.table c.args.place d) stands

pub refresh_from-requires-clause-bare : goal.refresh_from-requires-clause-bare
refresh_from-requires-clause-bare g c =
    let rooted : IsRooted c.args.store.now c.root-root.result.now = record { catalogue = c.root-root.ensures.root; entries = c.root-root.ensures.entries; valid = c.root-root.ensures.valid } in
    let p = c.index-parts-place.result.stored in
    let to : IsTarget c.args.store.now c.root-root.result.now c.args.table c.args.place p =
    target c.args.store.now c.root-root.result.now c.args.table c.args.place c.tables.result.now c.index-tables-table.result c.as_slice-parts.result.now c.index-parts-place.result rooted c.tables.ensures c.requires.stale c.index-tables-table.is c.as_slice-parts.ensures c.index-parts-place.is in
    subst (λ (e : Projection). e.containers ≡ []) (sym c.entry-shape.ensures.entry) (stale_bare c.root-root.result.now p.entry to.stale to.valid)

pub refresh_from-requires-clause-columns : goal.refresh_from-requires-clause-columns
refresh_from-requires-clause-columns g c =
    let rooted : IsRooted c.args.store.now c.root-root.result.now = record { catalogue = c.root-root.ensures.root; entries = c.root-root.ensures.entries; valid = c.root-root.ensures.valid } in
    let p = c.index-parts-place.result.stored in
    let to : IsTarget c.args.store.now c.root-root.result.now c.args.table c.args.place p =
    target c.args.store.now c.root-root.result.now c.args.table c.args.place c.tables.result.now c.index-tables-table.result c.as_slice-parts.result.now c.index-parts-place.result rooted c.tables.ensures c.requires.stale c.index-tables-table.is c.as_slice-parts.ensures c.index-parts-place.is in
    subst (λ (e : Projection). length e.columns ≤ 64) (sym c.entry-shape.ensures.entry) (own_narrow c.root-root.result.now p.entry to.valid)

pub refresh_from-requires-clause-fresh : goal.refresh_from-requires-clause-fresh
refresh_from-requires-clause-fresh g c =
    let rooted : IsRooted c.args.store.now c.root-root.result.now = record { catalogue = c.root-root.ensures.root; entries = c.root-root.ensures.entries; valid = c.root-root.ensures.valid } in
    let p = c.index-parts-from.result.stored in
    let from : IsSource c.args.store.now c.root-root.result.now c.args.table c.in-Some.from p =
    source c.args.store.now c.root-root.result.now c.args.table c.args.place c.in-Some.from c.tables.result.now c.index-tables-table.result c.as_slice-parts.result.now c.index-parts-from.result rooted c.tables.ensures c.requires.stale c.index-tables-table.is c.as_slice-parts.ensures c.index-parts-from.is c.in-Some.ensures.fresh in
    from.fresh

pub returns-in-Err-clause-made : goal.returns-in-Err-clause-made
returns-in-Err-clause-made g c = λ d stands.
    let rooted : IsRooted c.args.store.now c.root-root.result.now = record { catalogue = c.root-root.ensures.root; entries = c.root-root.ensures.entries; valid = c.root-root.ensures.valid } in
    let p = c.index-parts-from.result.stored in
    let from : IsSource c.args.store.now c.root-root.result.now c.args.table c.in-Some.from p =
    source c.args.store.now c.root-root.result.now c.args.table c.args.place c.in-Some.from c.tables.result.now c.index-tables-table.result c.as_slice-parts.result.now c.index-parts-from.result rooted c.tables.ensures c.requires.stale c.index-tables-table.is c.as_slice-parts.ensures c.index-parts-from.is c.in-Some.ensures.fresh in
    remake_fails g.D.Disk c.args.store.now c.root-root.result.now c.args.table c.args.place c.in-Some.from p c.in-Err.fault d rooted from.there c.refresh_from.ensures.moved stands

pub returns-in-Err-clause-unblamed : goal.returns-in-Err-clause-unblamed
returns-in-Err-clause-unblamed g c = λ d stands.
    let rooted : IsRooted c.args.store.now c.root-root.result.now = record { catalogue = c.root-root.ensures.root; entries = c.root-root.ensures.entries; valid = c.root-root.ensures.valid } in
    let p = c.index-parts-from.result.stored in
    let from : IsSource c.args.store.now c.root-root.result.now c.args.table c.in-Some.from p =
    source c.args.store.now c.root-root.result.now c.args.table c.args.place c.in-Some.from c.tables.result.now c.index-tables-table.result c.as_slice-parts.result.now c.index-parts-from.result rooted c.tables.ensures c.requires.stale c.index-tables-table.is c.as_slice-parts.ensures c.index-parts-from.is c.in-Some.ensures.fresh in
    remake_unblamed g.D.Disk c.args.disk.now c.args.store.now c.root-root.result.now c.args.table c.in-Some.from p c.in-Err.fault d from.there from.fresh from.below c.in-Err.ensures.unblamed stands

pub install-requires-clause-there : goal.install-requires-clause-there
install-requires-clause-there g c =
    let rooted : IsRooted c.args.store.now c.root-root.result.now = record { catalogue = c.root-root.ensures.root; entries = c.root-root.ensures.entries; valid = c.root-root.ensures.valid } in
    let p = c.index-parts-place.result.stored in
    let to : IsTarget c.args.store.now c.root-root.result.now c.args.table c.args.place p =
    target c.args.store.now c.root-root.result.now c.args.table c.args.place c.tables.result.now c.index-tables-table.result c.as_slice-parts.result.now c.index-parts-place.result rooted c.tables.ensures c.requires.stale c.index-tables-table.is c.as_slice-parts.ensures c.index-parts-place.is in
    let entry = c.in-Ok.refreshed.entry in
    own_renewal c.args.store.now.stores c.args.table c.args.place p entry (subst (λ (e : Projection). IsRenewal e entry) c.entry-shape.ensures.entry c.in-Ok.ensures.entry) to.there

pub returns-clause-made : goal.returns-clause-made
returns-clause-made g c = λ d stands.
    let rooted : IsRooted c.args.store.now c.root-root.result.now = record { catalogue = c.root-root.ensures.root; entries = c.root-root.ensures.entries; valid = c.root-root.ensures.valid } in
    let p = c.index-parts-from.result.stored in
    let from : IsSource c.args.store.now c.root-root.result.now c.args.table c.in-Some.from p =
    source c.args.store.now c.root-root.result.now c.args.table c.args.place c.in-Some.from c.tables.result.now c.index-tables-table.result c.as_slice-parts.result.now c.index-parts-from.result rooted c.tables.ensures c.requires.stale c.index-tables-table.is c.as_slice-parts.ensures c.index-parts-from.is c.in-Some.ensures.fresh in
    let entry = c.in-Ok.refreshed.entry in
    remakes g.D.Disk c.args.store.now c.install.new.self c.root-root.result.now c.args.table c.args.place c.in-Some.from p entry c.install.result d rooted from.there from.fresh from.below (c.in-Ok.ensures.reached ∙ c.last-last.ensures)
    c.refresh_from.ensures.moved c.in-Ok.ensures.made c.install.ensures.made stands

pub returns-clause-reached : goal.returns-clause-reached
returns-clause-reached g c =
    on_ok_weaker c.install.result (λ same.
    has_reached c.args.store.now c.install.new.self c.args.table c.args.place c.in-Ok.refreshed.next c.entry-shape.result.now c.in-Ok.refreshed.entry c.requires.stale c.in-Ok.ensures.entry (c.in-Ok.ensures.reached ∙ c.last-last.ensures) same)
    c.install.ensures.catalogue

pub returns-clause-unblamed : goal.returns-clause-unblamed
returns-clause-unblamed g c =
    let rooted : IsRooted c.args.store.now c.root-root.result.now = record { catalogue = c.root-root.ensures.root; entries = c.root-root.ensures.entries; valid = c.root-root.ensures.valid } in
    let p = c.index-parts-from.result.stored in
    let from : IsSource c.args.store.now c.root-root.result.now c.args.table c.in-Some.from p =
    source c.args.store.now c.root-root.result.now c.args.table c.args.place c.in-Some.from c.tables.result.now c.index-tables-table.result c.as_slice-parts.result.now c.index-parts-from.result rooted c.tables.ensures c.requires.stale c.index-tables-table.is c.as_slice-parts.ensures c.index-parts-from.is c.in-Some.ensures.fresh in
    let entry = c.in-Ok.refreshed.entry in
    of_fault c.install.result (λ f. (m : Contents) (held : List Stamped) → g.D.Disk.holds c.refresh_from.new.disk ≡ Some m → Holds m entry held → IsUnblamed f)
    (λ f. (d : Database) → Stands g.D.Disk c.args.store.now c.args.disk.now d → IsUnblamed f)
    (λ f blames d stands.
    let (n, held, told, holds) =
    remade_holds g.D.Disk c.args.store.now c.root-root.result.now c.args.table c.in-Some.from p entry d rooted from.there from.fresh from.below c.refresh_from.ensures.moved c.in-Ok.ensures.made stands in
    blames n held told holds) c.install.ensures.unblamed

pub returns-in-Err-clause-named : goal.returns-in-Err-clause-named
returns-in-Err-clause-named g c = λ m told.
    let rooted : IsRooted c.args.store.now c.root-root.result.now = record { catalogue = c.root-root.ensures.root; entries = c.root-root.ensures.entries; valid = c.root-root.ensures.valid } in
    let p = c.index-parts-from.result.stored in
    let from : IsSource c.args.store.now c.root-root.result.now c.args.table c.in-Some.from p =
    source c.args.store.now c.root-root.result.now c.args.table c.args.place c.in-Some.from c.tables.result.now c.index-tables-table.result c.as_slice-parts.result.now c.index-parts-from.result rooted c.tables.ensures c.requires.stale c.index-tables-table.is c.as_slice-parts.ensures c.index-parts-from.is c.in-Some.ensures.fresh in
    entry_held c.args.store.now.stores c.args.table c.in-Some.from p m c.in-Err.fault from.there (c.in-Err.ensures.named m told from.below)

pub returns-clause-named : goal.returns-clause-named
returns-clause-named g c =
    let r = c.in-Ok.refreshed in
    on_errs c.install.result (BlamesLoad r.entry.containers (g.D.Disk.holds c.refresh_from.new.disk)) (λ f. (IsUnblamed f → ⊥) → g.D.Disk.holds c.install.new.disk ≡ g.D.Disk.holds c.refresh_from.new.disk)
    (λ f. (m : Contents) → g.D.Disk.holds c.install.new.disk ≡ Some m → BlamesHeld c.args.store.now.stores (Some m) f)
    (λ f blames still m told. made_named g.D.Disk r.next r.entry.containers c.args.store.now.stores f c.in-Ok.ensures.vectors blames still m told) c.install.ensures.blamed c.install.ensures.unwritten
