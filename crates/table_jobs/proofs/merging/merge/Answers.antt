use Rattle.std.proofs.Common.{◌≡◌, ◌≤◌, inl, inr, ap, arith}
use Rattle.std.specs.Prelude.{Some}
use Rattle.std.proofs.lemmas.Result.{on_ok_weaker}
use Rattle.common_laws.specs.Maps.{Contents}
use Rattle.catalog_types.specs.declared.catalogue.Catalogue.{Catalogue}
use Rattle.col_disk.specs.Faults.{IsUnblamed}
use Rattle.col_disk.specs.declared.disk.StoreFault.TheVariants as fault
use Rattle.container_cut.proofs.Faults.{on_errs}
use Rattle.mergeout_job.specs.Oldest.{HasFour}
use Rattle.proj_store.specs.Reading.{BlamesLoad}
use Rattle.table_store.specs.Faults.{BlamesHeld}
use Rattle.table_store.proofs.Moves.{entry_held}
use Rattle.table_jobs.specs.Jobs.{DrawsMerged}
use Rattle.table_jobs.specs.Blamed.{BlamesMerge}
use Rattle.table_jobs.proofs.Holding.{IsOwnAt}
use Rattle.table_jobs.proofs.Raising.{IsRooted, own_entry, own_unblamed, draws_merged, err_weaker, raise_fails, raised_holds, raises}
use Rattle.table_jobs.proofs.Rooted.{of_own, own_below, own_fresh, own_narrow, own_reached, own_renewal, own_there, own_valid}
use Rattle.table_jobs.proofs.Named.{install_named, rows_named}
use Rattle.table_jobs.proofs.merging.merge.Goals as goal

pub merge_out-requires-clause-four : goal.merge_out-requires-clause-four
merge_out-requires-clause-four g c =
    let rooted : IsRooted c.args.store.now c.root-root.result.now = record { catalogue = c.root-root.ensures.root; entries = c.root-root.ensures.entries; valid = c.root-root.ensures.valid } in
    let p = c.index-as_slice-place.result.stored in
    let own : IsOwnAt c.args.store.now.stores c.args.table c.args.place p =
    own_there c.tables.result.now c.args.store.now.stores c.args.table c.args.place c.index-tables-table.result c.as_slice.result.now c.index-as_slice-place.result c.tables.ensures c.requires.fresh c.index-tables-table.is c.as_slice.ensures c.index-as_slice-place.is in
    of_own c.args.store.now c.root-root.result.now c.args.table c.args.place p (λ q. HasFour c.args.level q.containers) rooted own c.requires.four

pub merge_out-requires-clause-columns : goal.merge_out-requires-clause-columns
merge_out-requires-clause-columns g c =
    let rooted : IsRooted c.args.store.now c.root-root.result.now = record { catalogue = c.root-root.ensures.root; entries = c.root-root.ensures.entries; valid = c.root-root.ensures.valid } in
    let p = c.index-as_slice-place.result.stored in
    let own : IsOwnAt c.args.store.now.stores c.args.table c.args.place p =
    own_there c.tables.result.now c.args.store.now.stores c.args.table c.args.place c.index-tables-table.result c.as_slice.result.now c.index-as_slice-place.result c.tables.ensures c.requires.fresh c.index-tables-table.is c.as_slice.ensures c.index-as_slice-place.is in
    own_narrow c.root-root.result.now p.entry (own_valid c.args.store.now c.root-root.result.now c.args.table c.args.place p rooted own)

pub returns-in-Err-clause-made : goal.returns-in-Err-clause-made
returns-in-Err-clause-made g c = λ d stands.
    let rooted : IsRooted c.args.store.now c.root-root.result.now = record { catalogue = c.root-root.ensures.root; entries = c.root-root.ensures.entries; valid = c.root-root.ensures.valid } in
    let p = c.index-as_slice-place.result.stored in
    let own : IsOwnAt c.args.store.now.stores c.args.table c.args.place p =
    own_there c.tables.result.now c.args.store.now.stores c.args.table c.args.place c.index-tables-table.result c.as_slice.result.now c.index-as_slice-place.result c.tables.ensures c.requires.fresh c.index-tables-table.is c.as_slice.ensures c.index-as_slice-place.is in
    raise_fails g.D.Disk c.args.store.now c.root-root.result.now c.args.table c.args.place p c.in-Err.fault d rooted own (own_fresh c.args.store.now.stores c.args.table c.args.place p c.requires.fresh own) c.merge_out.ensures.moved stands

pub returns-in-Err-clause-unblamed : goal.returns-in-Err-clause-unblamed
returns-in-Err-clause-unblamed g c = λ d stands.
    let p = c.index-as_slice-place.result.stored in
    let own : IsOwnAt c.args.store.now.stores c.args.table c.args.place p =
    own_there c.tables.result.now c.args.store.now.stores c.args.table c.args.place c.index-tables-table.result c.as_slice.result.now c.index-as_slice-place.result c.tables.ensures c.requires.fresh c.index-tables-table.is c.as_slice.ensures c.index-as_slice-place.is in
    own_unblamed g.D.Disk c.args.disk.now c.args.store.now c.args.table c.args.place p c.in-Err.fault d own (own_fresh c.args.store.now.stores c.args.table c.args.place p c.requires.fresh own) c.in-Err.ensures.blamed stands

pub install-requires-clause-there : goal.install-requires-clause-there
install-requires-clause-there g c =
    let p = c.index-as_slice-place.result.stored in
    let own : IsOwnAt c.args.store.now.stores c.args.table c.args.place p =
    own_there c.tables.result.now c.args.store.now.stores c.args.table c.args.place c.index-tables-table.result c.as_slice.result.now c.index-as_slice-place.result c.tables.ensures c.requires.fresh c.index-tables-table.is c.as_slice.ensures c.index-as_slice-place.is in
    own_renewal c.args.store.now.stores c.args.table c.args.place p c.in-Ok.merged.entry c.in-Ok.ensures.entry own

pub install-requires-clause-reached : goal.install-requires-clause-reached
install-requires-clause-reached g c =
    let rooted : IsRooted c.args.store.now c.root-root.result.now = record { catalogue = c.root-root.ensures.root; entries = c.root-root.ensures.entries; valid = c.root-root.ensures.valid } in
    let p = c.index-as_slice-place.result.stored in
    let own : IsOwnAt c.args.store.now.stores c.args.table c.args.place p =
    own_there c.tables.result.now c.args.store.now.stores c.args.table c.args.place c.index-tables-table.result c.as_slice.result.now c.index-as_slice-place.result c.tables.ensures c.requires.fresh c.index-tables-table.is c.as_slice.ensures c.index-as_slice-place.is in
    let valid = own_valid c.args.store.now c.root-root.result.now c.args.table c.args.place p rooted own in
    let mark = own_reached c.root-root.result.now p.entry (own_fresh c.args.store.now.stores c.args.table c.args.place p c.requires.fresh own) valid in
    let same = ap (λ (k : Catalogue). k.ahm) rooted.catalogue in
    let later = c.in-Ok.ensures.later in
    omega (arith, mark, same, later)

pub returns-then-merged-last-clause-made : goal.returns-then-merged-last-clause-made
returns-then-merged-last-clause-made g c = λ d stands.
    let rooted : IsRooted c.args.store.now c.root-root.result.now = record { catalogue = c.root-root.ensures.root; entries = c.root-root.ensures.entries; valid = c.root-root.ensures.valid } in
    let p = c.index-as_slice-place.result.stored in
    let own : IsOwnAt c.args.store.now.stores c.args.table c.args.place p =
    own_there c.tables.result.now c.args.store.now.stores c.args.table c.args.place c.index-tables-table.result c.as_slice.result.now c.index-as_slice-place.result c.tables.ensures c.requires.fresh c.index-tables-table.is c.as_slice.ensures c.index-as_slice-place.is in
    let fresh = own_fresh c.args.store.now.stores c.args.table c.args.place p c.requires.fresh own in
    raise_fails g.D.Disk c.args.store.now c.root-root.result.now c.args.table c.args.place p fault.Memory d rooted own fresh c.merge_out.ensures.moved stands

pub returns-clause-made : goal.returns-clause-made
returns-clause-made g c = λ d stands.
    let rooted : IsRooted c.args.store.now c.root-root.result.now = record { catalogue = c.root-root.ensures.root; entries = c.root-root.ensures.entries; valid = c.root-root.ensures.valid } in
    let p = c.index-as_slice-place.result.stored in
    let own : IsOwnAt c.args.store.now.stores c.args.table c.args.place p =
    own_there c.tables.result.now c.args.store.now.stores c.args.table c.args.place c.index-tables-table.result c.as_slice.result.now c.index-as_slice-place.result c.tables.ensures c.requires.fresh c.index-tables-table.is c.as_slice.ensures c.index-as_slice-place.is in
    let fresh = own_fresh c.args.store.now.stores c.args.table c.args.place p c.requires.fresh own in
    let valid = own_valid c.args.store.now c.root-root.result.now c.args.table c.args.place p rooted own in
    let entry = c.in-Ok.merged.entry in
    let closed : entry.lge ≤ c.args.store.now.catalogue.last = omega (arith, c.if-merged-last.false, c.last.ensures) in
    raises g.D.Disk {mid = c.merge_out.new.disk} c.args.store.now c.install.new.self c.root-root.result.now c.args.table c.args.place p entry c.install.result d rooted own fresh
    (own_below c.root-root.result.now p.entry valid) c.in-Ok.ensures.entry c.in-Ok.ensures.later closed c.merge_out.ensures.moved c.in-Ok.ensures.keeps c.install.ensures.made stands

pub returns-clause-drawn : goal.returns-clause-drawn
returns-clause-drawn g c =
    let rooted : IsRooted c.args.store.now c.root-root.result.now = record { catalogue = c.root-root.ensures.root; entries = c.root-root.ensures.entries; valid = c.root-root.ensures.valid } in
    let p = c.index-as_slice-place.result.stored in
    let own : IsOwnAt c.args.store.now.stores c.args.table c.args.place p =
    own_there c.tables.result.now c.args.store.now.stores c.args.table c.args.place c.index-tables-table.result c.as_slice.result.now c.index-as_slice-place.result c.tables.ensures c.requires.fresh c.index-tables-table.is c.as_slice.ensures c.index-as_slice-place.is in
    let fresh = own_fresh c.args.store.now.stores c.args.table c.args.place p c.requires.fresh own in
    let entry = c.in-Ok.merged.entry in
    let next = ap (λ (k : Catalogue). k.next) rooted.catalogue in
    let from = c.in-Ok.ensures.next in
    let upto = c.in-Ok.ensures.upto in
    on_ok_weaker c.install.result (λ same. own_entry c.args.store.now c.root-root.result.now c.args.table c.args.place p (DrawsMerged c.args.table c.args.place c.args.store.now.catalogue c.install.new.self.catalogue) rooted own
    (draws_merged c.args.store.now c.install.new.self c.args.table c.args.place c.in-Ok.merged.next p.entry entry same (omega (arith, next, from)) (omega (arith, next, upto)) c.in-Ok.ensures.count))
    c.install.ensures.catalogue

pub returns-clause-unblamed : goal.returns-clause-unblamed
returns-clause-unblamed g c =
    let rooted : IsRooted c.args.store.now c.root-root.result.now = record { catalogue = c.root-root.ensures.root; entries = c.root-root.ensures.entries; valid = c.root-root.ensures.valid } in
    let p = c.index-as_slice-place.result.stored in
    let own : IsOwnAt c.args.store.now.stores c.args.table c.args.place p =
    own_there c.tables.result.now c.args.store.now.stores c.args.table c.args.place c.index-tables-table.result c.as_slice.result.now c.index-as_slice-place.result c.tables.ensures c.requires.fresh c.index-tables-table.is c.as_slice.ensures c.index-as_slice-place.is in
    let fresh = own_fresh c.args.store.now.stores c.args.table c.args.place p c.requires.fresh own in
    let valid = own_valid c.args.store.now c.root-root.result.now c.args.table c.args.place p rooted own in
    err_weaker c.install.result (λ f blames d stands.
    let (n, held, told, holds) = raised_holds g.D.Disk {mid = c.merge_out.new.disk} c.args.store.now c.root-root.result.now c.args.table c.args.place p c.in-Ok.merged.entry d rooted own fresh (own_below c.root-root.result.now p.entry valid) c.merge_out.ensures.moved c.in-Ok.ensures.keeps stands in
    blames n held told holds) c.install.ensures.unblamed

pub returns-in-Err-clause-blamed : goal.returns-in-Err-clause-blamed
returns-in-Err-clause-blamed g c =
    let rooted : IsRooted c.args.store.now c.root-root.result.now = record { catalogue = c.root-root.ensures.root; entries = c.root-root.ensures.entries; valid = c.root-root.ensures.valid } in
    let p = c.index-as_slice-place.result.stored in
    let own : IsOwnAt c.args.store.now.stores c.args.table c.args.place p =
    own_there c.tables.result.now c.args.store.now.stores c.args.table c.args.place c.index-tables-table.result c.as_slice.result.now c.index-as_slice-place.result c.tables.ensures c.requires.fresh c.index-tables-table.is c.as_slice.ensures c.index-as_slice-place.is in
    own_entry c.args.store.now c.root-root.result.now c.args.table c.args.place p (BlamesMerge (g.D.Disk.holds c.args.disk.now) c.in-Err.fault) rooted own (inl c.in-Err.ensures.blamed)

pub returns-then-merged-last-clause-blamed : goal.returns-then-merged-last-clause-blamed
returns-then-merged-last-clause-blamed g c =
    let rooted : IsRooted c.args.store.now c.root-root.result.now = record { catalogue = c.root-root.ensures.root; entries = c.root-root.ensures.entries; valid = c.root-root.ensures.valid } in
    let p = c.index-as_slice-place.result.stored in
    let own : IsOwnAt c.args.store.now.stores c.args.table c.args.place p =
    own_there c.tables.result.now c.args.store.now.stores c.args.table c.args.place c.index-tables-table.result c.as_slice.result.now c.index-as_slice-place.result c.tables.ensures c.requires.fresh c.index-tables-table.is c.as_slice.ensures c.index-as_slice-place.is in
    own_entry c.args.store.now c.root-root.result.now c.args.table c.args.place p (BlamesMerge (g.D.Disk.holds c.args.disk.now) fault.Memory) rooted own (inl tt)

pub returns-clause-blamed : goal.returns-clause-blamed
returns-clause-blamed g c =
    let rooted : IsRooted c.args.store.now c.root-root.result.now = record { catalogue = c.root-root.ensures.root; entries = c.root-root.ensures.entries; valid = c.root-root.ensures.valid } in
    let p = c.index-as_slice-place.result.stored in
    let own : IsOwnAt c.args.store.now.stores c.args.table c.args.place p =
    own_there c.tables.result.now c.args.store.now.stores c.args.table c.args.place c.index-tables-table.result c.as_slice.result.now c.index-as_slice-place.result c.tables.ensures c.requires.fresh c.index-tables-table.is c.as_slice.ensures c.index-as_slice-place.is in
    let below = own_below c.root-root.result.now p.entry (own_valid c.args.store.now c.root-root.result.now c.args.table c.args.place p rooted own) in
    err_weaker c.install.result (λ f blames.
    own_entry c.args.store.now c.root-root.result.now c.args.table c.args.place p (BlamesMerge (g.D.Disk.holds c.args.disk.now) f) rooted own (inr (c.in-Ok.ensures.loads below f blames))) c.install.ensures.blamed

pub returns-in-Err-clause-named : goal.returns-in-Err-clause-named
returns-in-Err-clause-named g c = λ m told.
    let rooted : IsRooted c.args.store.now c.root-root.result.now = record { catalogue = c.root-root.ensures.root; entries = c.root-root.ensures.entries; valid = c.root-root.ensures.valid } in
    let p = c.index-as_slice-place.result.stored in
    let own : IsOwnAt c.args.store.now.stores c.args.table c.args.place p =
    own_there c.tables.result.now c.args.store.now.stores c.args.table c.args.place c.index-tables-table.result c.as_slice.result.now c.index-as_slice-place.result c.tables.ensures c.requires.fresh c.index-tables-table.is c.as_slice.ensures c.index-as_slice-place.is in
    let below = own_below c.root-root.result.now p.entry (own_valid c.args.store.now c.root-root.result.now c.args.table c.args.place p rooted own) in
    entry_held c.args.store.now.stores c.args.table c.args.place p m c.in-Err.fault own (rows_named g.D.Disk p.entry c.root-root.result.now.next c.in-Err.fault below c.merge_out.ensures.moved c.in-Err.ensures.blamed m told)

pub returns-clause-named : goal.returns-clause-named
returns-clause-named g c =
    let rooted : IsRooted c.args.store.now c.root-root.result.now = record { catalogue = c.root-root.ensures.root; entries = c.root-root.ensures.entries; valid = c.root-root.ensures.valid } in
    let p = c.index-as_slice-place.result.stored in
    let own : IsOwnAt c.args.store.now.stores c.args.table c.args.place p =
    own_there c.tables.result.now c.args.store.now.stores c.args.table c.args.place c.index-tables-table.result c.as_slice.result.now c.index-as_slice-place.result c.tables.ensures c.requires.fresh c.index-tables-table.is c.as_slice.ensures c.index-as_slice-place.is in
    let below = own_below c.root-root.result.now p.entry (own_valid c.args.store.now c.root-root.result.now c.args.table c.args.place p rooted own) in
    on_errs c.install.result (BlamesLoad c.in-Ok.merged.entry.containers (g.D.Disk.holds c.merge_out.new.disk)) (λ f. (IsUnblamed f → ⊥) → g.D.Disk.holds c.install.new.disk ≡ g.D.Disk.holds c.merge_out.new.disk)
    (λ f. (m : Contents) → g.D.Disk.holds c.install.new.disk ≡ Some m → BlamesHeld c.args.store.now.stores (Some m) f)
    (λ f blames still m told.
    entry_held c.args.store.now.stores c.args.table c.args.place p m f own
    (install_named g.D.Disk p.entry c.root-root.result.now.next f below c.merge_out.ensures.moved (c.in-Ok.ensures.loads below f blames) still m told))
    c.install.ensures.blamed c.install.ensures.unwritten
