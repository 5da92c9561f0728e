use Rattle.std.proofs.Common.{◌≡◌, ap, arith}
use Rattle.std.specs.Prelude.{Some}
use Rattle.common_laws.specs.Maps.{Contents}
use Rattle.catalog_types.specs.declared.catalogue.Catalogue.{Catalogue}
use Rattle.col_disk.specs.Faults.{IsUnblamed}
use Rattle.col_disk.specs.declared.disk.StoreFault.TheVariants as fault
use Rattle.container_cut.proofs.Faults.{on_err, on_errs}
use Rattle.proj_store.specs.Reading.{BlamesLoad}
use Rattle.db_model.specs.Database.{Database}
use Rattle.store_commit.specs.Seen.{Stands}
use Rattle.table_store.specs.Faults.{BlamesHeld}
use Rattle.table_store.specs.Installing.{PutsEntry}
use Rattle.table_store.specs.Moving.{with_entry_at}
use Rattle.table_jobs.specs.Purged.{IsKeptWholeAt}
use Rattle.table_store.proofs.Moves.{entry_held}
use Rattle.table_jobs.specs.Blamed.{BlamesPurge}
use Rattle.table_jobs.specs.Jobs.{DrawsAnew}
use Rattle.table_jobs.proofs.Holding.{IsOwnAt}
use Rattle.table_jobs.proofs.Named.{damage_named, install_named}
use Rattle.table_jobs.proofs.Purges.{both_ok, draws_purged, on_ok, own_undamaged, purged_renewal}
use Rattle.table_jobs.proofs.Raising.{IsRooted, err_weaker, own_entry, raise_fails, raised_holds, raises}
use Rattle.table_jobs.proofs.Rooted.{own_below, own_fresh, own_narrow, own_reached, own_renewal, own_there, own_valid}
use Rattle.table_jobs.proofs.Whole.{purged_whole}
use Rattle.table_jobs.proofs.purging.purge.Goals as goal

pub returns-in-Err-clause-made : goal.returns-in-Err-clause-made
returns-in-Err-clause-made g c = λ d stands.
    let rooted : IsRooted c.args.store.now c.root-root.result.now = record { catalogue = c.root-root.ensures.root; entries = c.root-root.ensures.entries; valid = c.root-root.ensures.valid } in
    let p = c.index-as_slice-place.result.stored in
    let own : IsOwnAt c.args.store.now.stores c.args.table c.args.place p =
    own_there c.tables.result.now c.args.store.now.stores c.args.table c.args.place c.index-tables-table.result c.as_slice.result.now c.index-as_slice-place.result c.tables.ensures c.requires.fresh c.index-tables-table.is c.as_slice.ensures c.index-as_slice-place.is in
    raise_fails g.D.Disk c.args.store.now c.root-root.result.now c.args.table c.args.place p c.in-Err.fault d rooted own (own_fresh c.args.store.now.stores c.args.table c.args.place p c.requires.fresh own) c.purge_one.ensures.moved stands

pub returns-in-Err-clause-unblamed : goal.returns-in-Err-clause-unblamed
returns-in-Err-clause-unblamed g c = λ d stands.
    let rooted : IsRooted c.args.store.now c.root-root.result.now = record { catalogue = c.root-root.ensures.root; entries = c.root-root.ensures.entries; valid = c.root-root.ensures.valid } in
    let p = c.index-as_slice-place.result.stored in
    let own : IsOwnAt c.args.store.now.stores c.args.table c.args.place p =
    own_there c.tables.result.now c.args.store.now.stores c.args.table c.args.place c.index-tables-table.result c.as_slice.result.now c.index-as_slice-place.result c.tables.ensures c.requires.fresh c.index-tables-table.is c.as_slice.ensures c.index-as_slice-place.is in
    let below = own_below c.root-root.result.now p.entry (own_valid c.args.store.now c.root-root.result.now c.args.table c.args.place p rooted own) in
    own_undamaged g.D.Disk c.args.disk.now c.args.store.now c.args.table c.args.place p c.in-Err.fault d own (own_fresh c.args.store.now.stores c.args.table c.args.place p c.requires.fresh own) (c.in-Err.ensures.blamed below) stands

pub returns-then-purged-last-clause-made : goal.returns-then-purged-last-clause-made
returns-then-purged-last-clause-made g c = λ d stands.
    let rooted : IsRooted c.args.store.now c.root-root.result.now = record { catalogue = c.root-root.ensures.root; entries = c.root-root.ensures.entries; valid = c.root-root.ensures.valid } in
    let p = c.index-as_slice-place.result.stored in
    let own : IsOwnAt c.args.store.now.stores c.args.table c.args.place p =
    own_there c.tables.result.now c.args.store.now.stores c.args.table c.args.place c.index-tables-table.result c.as_slice.result.now c.index-as_slice-place.result c.tables.ensures c.requires.fresh c.index-tables-table.is c.as_slice.ensures c.index-as_slice-place.is in
    raise_fails g.D.Disk c.args.store.now c.root-root.result.now c.args.table c.args.place p fault.Memory d rooted own (own_fresh c.args.store.now.stores c.args.table c.args.place p c.requires.fresh own) c.purge_one.ensures.moved stands

pub install-requires-clause-there : goal.install-requires-clause-there
install-requires-clause-there g c =
    let p = c.index-as_slice-place.result.stored in
    let own : IsOwnAt c.args.store.now.stores c.args.table c.args.place p =
    own_there c.tables.result.now c.args.store.now.stores c.args.table c.args.place c.index-tables-table.result c.as_slice.result.now c.index-as_slice-place.result c.tables.ensures c.requires.fresh c.index-tables-table.is c.as_slice.ensures c.index-as_slice-place.is in
    own_renewal c.args.store.now.stores c.args.table c.args.place p c.in-Ok.purged.entry (purged_renewal c.root-root.result.now.next c.in-Ok.purged.next p.entry c.in-Ok.purged.entry c.in-Ok.ensures.entry) own

pub install-requires-clause-drawn : goal.install-requires-clause-drawn
install-requires-clause-drawn g c =
    let begin = ap (λ (k : Catalogue). k.next) c.root-root.ensures.root in
    let later = c.in-Ok.ensures.next in
    omega (arith, begin, later)

pub install-requires-clause-reached : goal.install-requires-clause-reached
install-requires-clause-reached g c =
    let rooted : IsRooted c.args.store.now c.root-root.result.now = record { catalogue = c.root-root.ensures.root; entries = c.root-root.ensures.entries; valid = c.root-root.ensures.valid } in
    let p = c.index-as_slice-place.result.stored in
    let own : IsOwnAt c.args.store.now.stores c.args.table c.args.place p =
    own_there c.tables.result.now c.args.store.now.stores c.args.table c.args.place c.index-tables-table.result c.as_slice.result.now c.index-as_slice-place.result c.tables.ensures c.requires.fresh c.index-tables-table.is c.as_slice.ensures c.index-as_slice-place.is in
    let valid = own_valid c.args.store.now c.root-root.result.now c.args.table c.args.place p rooted own in
    let mark = own_reached c.root-root.result.now p.entry (own_fresh c.args.store.now.stores c.args.table c.args.place p c.requires.fresh own) valid in
    let same = ap (λ (k : Catalogue). k.ahm) rooted.catalogue in
    let later = c.in-Ok.ensures.later in
    omega (arith, mark, same, later)

pub returns-clause-made : goal.returns-clause-made
returns-clause-made g c = λ d stands.
    let rooted : IsRooted c.args.store.now c.root-root.result.now = record { catalogue = c.root-root.ensures.root; entries = c.root-root.ensures.entries; valid = c.root-root.ensures.valid } in
    let p = c.index-as_slice-place.result.stored in
    let entry = c.in-Ok.purged.entry in
    let own : IsOwnAt c.args.store.now.stores c.args.table c.args.place p =
    own_there c.tables.result.now c.args.store.now.stores c.args.table c.args.place c.index-tables-table.result c.as_slice.result.now c.index-as_slice-place.result c.tables.ensures c.requires.fresh c.index-tables-table.is c.as_slice.ensures c.index-as_slice-place.is in
    let below = own_below c.root-root.result.now p.entry (own_valid c.args.store.now c.root-root.result.now c.args.table c.args.place p rooted own) in
    let test = c.if-purged-last.false in
    let last = c.last.ensures in
    raises g.D.Disk c.args.store.now c.install.new.self c.root-root.result.now c.args.table c.args.place p entry c.install.result d rooted own (own_fresh c.args.store.now.stores c.args.table c.args.place p c.requires.fresh own) below
    (purged_renewal c.root-root.result.now.next c.in-Ok.purged.next p.entry entry c.in-Ok.ensures.entry) c.in-Ok.ensures.later (omega (arith, test, last)) c.purge_one.ensures.moved
    (λ m n told left low vectors. c.in-Ok.ensures.keeps m n told left low) c.install.ensures.made stands

pub returns-clause-drawn : goal.returns-clause-drawn
returns-clause-drawn g c =
    let rooted : IsRooted c.args.store.now c.root-root.result.now = record { catalogue = c.root-root.ensures.root; entries = c.root-root.ensures.entries; valid = c.root-root.ensures.valid } in
    let p = c.index-as_slice-place.result.stored in
    let own : IsOwnAt c.args.store.now.stores c.args.table c.args.place p =
    own_there c.tables.result.now c.args.store.now.stores c.args.table c.args.place c.index-tables-table.result c.as_slice.result.now c.index-as_slice-place.result c.tables.ensures c.requires.fresh c.index-tables-table.is c.as_slice.ensures c.index-as_slice-place.is in
    let narrow = own_narrow c.root-root.result.now p.entry (own_valid c.args.store.now c.root-root.result.now c.args.table c.args.place p rooted own) in
    on_ok c.install.result _ _
    (λ same.
    own_entry c.args.store.now c.root-root.result.now c.args.table c.args.place p (DrawsAnew c.args.table c.args.place 1 c.args.store.now.catalogue c.install.new.self.catalogue) rooted own
    (draws_purged c.args.store.now c.install.new.self c.root-root.result.now c.args.table c.args.place c.in-Ok.purged.next p.entry c.in-Ok.purged.entry (ap (λ (k : Catalogue). k.next) rooted.catalogue) same c.in-Ok.ensures.next
    c.in-Ok.ensures.upto narrow c.in-Ok.ensures.count))
    c.install.ensures.catalogue

pub returns-clause-unblamed : goal.returns-clause-unblamed
returns-clause-unblamed g c =
    on_err c.install.result _ _
    (λ f blames d stands.
    let rooted : IsRooted c.args.store.now c.root-root.result.now = record { catalogue = c.root-root.ensures.root; entries = c.root-root.ensures.entries; valid = c.root-root.ensures.valid } in
    let p = c.index-as_slice-place.result.stored in
    let entry = c.in-Ok.purged.entry in
    let own : IsOwnAt c.args.store.now.stores c.args.table c.args.place p =
    own_there c.tables.result.now c.args.store.now.stores c.args.table c.args.place c.index-tables-table.result c.as_slice.result.now c.index-as_slice-place.result c.tables.ensures c.requires.fresh c.index-tables-table.is c.as_slice.ensures c.index-as_slice-place.is in
    let below = own_below c.root-root.result.now p.entry (own_valid c.args.store.now c.root-root.result.now c.args.table c.args.place p rooted own) in
    let (n, held, told, holds) = raised_holds g.D.Disk c.args.store.now c.root-root.result.now c.args.table c.args.place p entry d rooted own (own_fresh c.args.store.now.stores c.args.table c.args.place p c.requires.fresh own) below c.purge_one.ensures.moved
    (λ m n told left low vectors. c.in-Ok.ensures.keeps m n told left low) stands in
    blames n held told holds)
    c.install.ensures.unblamed

pub returns-in-Err-clause-blamed : goal.returns-in-Err-clause-blamed
returns-in-Err-clause-blamed g c =
    let rooted : IsRooted c.args.store.now c.root-root.result.now = record { catalogue = c.root-root.ensures.root; entries = c.root-root.ensures.entries; valid = c.root-root.ensures.valid } in
    let p = c.index-as_slice-place.result.stored in
    let own : IsOwnAt c.args.store.now.stores c.args.table c.args.place p =
    own_there c.tables.result.now c.args.store.now.stores c.args.table c.args.place c.index-tables-table.result c.as_slice.result.now c.index-as_slice-place.result c.tables.ensures c.requires.fresh c.index-tables-table.is c.as_slice.ensures c.index-as_slice-place.is in
    own_entry c.args.store.now c.root-root.result.now c.args.table c.args.place p (BlamesPurge (g.D.Disk.holds c.args.disk.now) c.in-Err.fault) rooted own (c.in-Err.ensures.blamed (own_below c.root-root.result.now p.entry (own_valid c.args.store.now c.root-root.result.now c.args.table c.args.place p rooted own)))

pub returns-then-purged-last-clause-blamed : goal.returns-then-purged-last-clause-blamed
returns-then-purged-last-clause-blamed g c =
    let rooted : IsRooted c.args.store.now c.root-root.result.now = record { catalogue = c.root-root.ensures.root; entries = c.root-root.ensures.entries; valid = c.root-root.ensures.valid } in
    let p = c.index-as_slice-place.result.stored in
    let own : IsOwnAt c.args.store.now.stores c.args.table c.args.place p =
    own_there c.tables.result.now c.args.store.now.stores c.args.table c.args.place c.index-tables-table.result c.as_slice.result.now c.index-as_slice-place.result c.tables.ensures c.requires.fresh c.index-tables-table.is c.as_slice.ensures c.index-as_slice-place.is in
    own_entry c.args.store.now c.root-root.result.now c.args.table c.args.place p (BlamesPurge (g.D.Disk.holds c.args.disk.now) fault.Memory) rooted own tt

pub returns-clause-blamed : goal.returns-clause-blamed
returns-clause-blamed g c =
    let rooted : IsRooted c.args.store.now c.root-root.result.now = record { catalogue = c.root-root.ensures.root; entries = c.root-root.ensures.entries; valid = c.root-root.ensures.valid } in
    let p = c.index-as_slice-place.result.stored in
    let own : IsOwnAt c.args.store.now.stores c.args.table c.args.place p =
    own_there c.tables.result.now c.args.store.now.stores c.args.table c.args.place c.index-tables-table.result c.as_slice.result.now c.index-as_slice-place.result c.tables.ensures c.requires.fresh c.index-tables-table.is c.as_slice.ensures c.index-as_slice-place.is in
    let below = own_below c.root-root.result.now p.entry (own_valid c.args.store.now c.root-root.result.now c.args.table c.args.place p rooted own) in
    err_weaker c.install.result (λ f blames.
    own_entry c.args.store.now c.root-root.result.now c.args.table c.args.place p (BlamesPurge (g.D.Disk.holds c.args.disk.now) f) rooted own (c.in-Ok.ensures.loads below f blames)) c.install.ensures.blamed

pub returns-in-Err-clause-named : goal.returns-in-Err-clause-named
returns-in-Err-clause-named g c = λ m told.
    let rooted : IsRooted c.args.store.now c.root-root.result.now = record { catalogue = c.root-root.ensures.root; entries = c.root-root.ensures.entries; valid = c.root-root.ensures.valid } in
    let p = c.index-as_slice-place.result.stored in
    let own : IsOwnAt c.args.store.now.stores c.args.table c.args.place p =
    own_there c.tables.result.now c.args.store.now.stores c.args.table c.args.place c.index-tables-table.result c.as_slice.result.now c.index-as_slice-place.result c.tables.ensures c.requires.fresh c.index-tables-table.is c.as_slice.ensures c.index-as_slice-place.is in
    let below = own_below c.root-root.result.now p.entry (own_valid c.args.store.now c.root-root.result.now c.args.table c.args.place p rooted own) in
    entry_held c.args.store.now.stores c.args.table c.args.place p m c.in-Err.fault own (damage_named g.D.Disk p.entry c.root-root.result.now.next c.in-Err.fault below c.purge_one.ensures.moved (c.in-Err.ensures.blamed below) m told)

pub returns-clause-named : goal.returns-clause-named
returns-clause-named g c =
    let rooted : IsRooted c.args.store.now c.root-root.result.now = record { catalogue = c.root-root.ensures.root; entries = c.root-root.ensures.entries; valid = c.root-root.ensures.valid } in
    let p = c.index-as_slice-place.result.stored in
    let own : IsOwnAt c.args.store.now.stores c.args.table c.args.place p =
    own_there c.tables.result.now c.args.store.now.stores c.args.table c.args.place c.index-tables-table.result c.as_slice.result.now c.index-as_slice-place.result c.tables.ensures c.requires.fresh c.index-tables-table.is c.as_slice.ensures c.index-as_slice-place.is in
    let below = own_below c.root-root.result.now p.entry (own_valid c.args.store.now c.root-root.result.now c.args.table c.args.place p rooted own) in
    on_errs c.install.result (BlamesLoad c.in-Ok.purged.entry.containers (g.D.Disk.holds c.purge_one.new.disk)) (λ f. (IsUnblamed f → ⊥) → g.D.Disk.holds c.install.new.disk ≡ g.D.Disk.holds c.purge_one.new.disk)
    (λ f. (m : Contents) → g.D.Disk.holds c.install.new.disk ≡ Some m → BlamesHeld c.args.store.now.stores (Some m) f)
    (λ f blames still m told.
    entry_held c.args.store.now.stores c.args.table c.args.place p m f own
    (install_named g.D.Disk p.entry c.root-root.result.now.next f below c.purge_one.ensures.moved (c.in-Ok.ensures.loads below f blames) still m told))
    c.install.ensures.blamed c.install.ensures.unwritten

pub returns-clause-whole : goal.returns-clause-whole
returns-clause-whole g c =
    let rooted : IsRooted c.args.store.now c.root-root.result.now = record { catalogue = c.root-root.ensures.root; entries = c.root-root.ensures.entries; valid = c.root-root.ensures.valid } in
    let p = c.index-as_slice-place.result.stored in
    let own : IsOwnAt c.args.store.now.stores c.args.table c.args.place p =
    own_there c.tables.result.now c.args.store.now.stores c.args.table c.args.place c.index-tables-table.result c.as_slice.result.now c.index-as_slice-place.result c.tables.ensures c.requires.fresh c.index-tables-table.is c.as_slice.ensures c.index-as_slice-place.is in
    let below = own_below c.root-root.result.now p.entry (own_valid c.args.store.now c.root-root.result.now c.args.table c.args.place p rooted own) in
    let entry = c.in-Ok.purged.entry in
    let stores = c.args.store.now.stores in
    both_ok c.install.result (c.install.new.self.catalogue ≡ with_entry_at c.args.store.now.catalogue.last c.in-Ok.purged.next c.args.table c.args.place entry c.args.store.now.catalogue)
    (PutsEntry c.args.table c.args.place entry (g.D.Disk.holds c.purge_one.new.disk) stores c.install.new.self.stores)
    ((d : Database) → Stands g.D.Disk c.args.store.now c.args.disk.now d → IsKeptWholeAt c.install.new.self.catalogue.ahm c.args.table c.args.place c.install.new.self.stores)
    (λ same puts d stands.
    purged_whole g.D.Disk c.args.store.now c.install.new.self c.root-root.result.now c.args.table c.args.place p entry d c.what_is_read_is_stored.ensures.stored rooted own (own_fresh stores c.args.table c.args.place p c.requires.fresh own) below
    c.purge_one.ensures.moved c.in-Ok.ensures.purged puts (ap (λ (k : Catalogue). k.ahm) same) stands)
    c.install.ensures.catalogue c.install.ensures.puts

pub returns-clause-others : goal.returns-clause-others
returns-clause-others g c = on_ok c.install.result _ _ (λ puts. (puts.store, puts.stores)) c.install.ensures.puts

pub returns-clause-mark : goal.returns-clause-mark
returns-clause-mark g c = on_ok c.install.result _ _ (λ same. ap (λ (k : Catalogue). k.ahm) same) c.install.ensures.catalogue
