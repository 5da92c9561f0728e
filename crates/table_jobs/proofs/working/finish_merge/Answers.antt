use Rattle.std.proofs.Common.{◌≡◌, ◌≤◌, ◌∙◌, ℕ, length, sym, ap, subst, arith}
use Rattle.std.specs.Prelude.{Some, OnOk}
use Rattle.std.proofs.lemmas.Result.{on_ok_weaker}
use Rattle.common_laws.specs.Maps.{Contents}
use Rattle.catalog_types.specs.declared.catalogue.Catalogue.{Catalogue}
use Rattle.col_disk.specs.Faults.{IsUnblamed}
use Rattle.col_disk.specs.declared.disk.StoreFault.TheVariants as fault
use Rattle.container_cut.proofs.Faults.{on_errs}
use Rattle.catalog_types.specs.Numbers.{file_count}
use Rattle.moveout_job.specs.OnDisk.{IsListedBelow}
use Rattle.proj_store.specs.Reading.{BlamesLoad}
use Rattle.table_store.specs.Faults.{BlamesHeld}
use Rattle.table_store.proofs.Moves.{entry_held}
use Rattle.table_jobs.specs.Jobs.{DrawsMerged, OfProjection}
use Rattle.table_jobs.specs.Working.{working, Working}
use Rattle.table_jobs.proofs.Holding.{IsOwnAt}
use Rattle.table_jobs.proofs.Raising.{IsRooted, own_entry, own_unblamed, draws_merged, err_weaker, raise_fails, raised_holds, raises}
use Rattle.table_jobs.proofs.Rooted.{own_below, own_reached, own_renewal, own_valid}
use Rattle.table_jobs.proofs.UnderWay.{ends_keeping, from_base, rise_at, work_fresh, work_own}
use Rattle.table_jobs.proofs.Named.{install_named, rows_named}
use Rattle.table_jobs.proofs.working.finish_merge.Goals as goal

pub returns-in-Err-clause-made : goal.returns-in-Err-clause-made
returns-in-Err-clause-made g c = λ d stands under.
    let rooted : IsRooted c.args.store.now c.root-root.result.now = record { catalogue = c.root-root.ensures.root; entries = c.root-root.ensures.entries; valid = c.root-root.ensures.valid } in
    let p = c.index-as_slice-work.result.stored in
    let own : IsOwnAt c.args.store.now.stores c.work.inside.table c.work.inside.place p =
    work_own c.tables.result.now c.args.store.now (working c.work.inside.table c.work.inside.place c.work.inside.entry c.work.inside.job) c.args.work.now c.index-tables-work.result c.as_slice.result.now c.index-as_slice-work.result c.work.view_is c.requires.over c.tables.ensures c.index-tables-work.is c.as_slice.ensures c.index-as_slice-work.is in
    rise_at (working c.work.inside.table c.work.inside.place c.work.inside.entry c.work.inside.job) c.args.work.now c.work.view_is
    (raise_fails g.D.Disk c.args.store.now c.root-root.result.now c.work.inside.table c.work.inside.place p c.in-Err.fault d rooted own (work_fresh c.args.store.now (working c.work.inside.table c.work.inside.place c.work.inside.entry c.work.inside.job) c.args.work.now p c.work.view_is c.requires.over own) (from_base g.D.Disk c.root-root.result.now.next c.args.work.now.job.draft.base (file_count (length p.entry.columns)) (sym c.requires.over.next ∙ ap (λ (k : Catalogue). k.next) c.root-root.ensures.root) c.end.ensures.moved) stands)

pub returns-in-Err-clause-unblamed : goal.returns-in-Err-clause-unblamed
returns-in-Err-clause-unblamed g c = λ d stands under.
    let p = c.index-as_slice-work.result.stored in
    let own : IsOwnAt c.args.store.now.stores c.work.inside.table c.work.inside.place p =
    work_own c.tables.result.now c.args.store.now (working c.work.inside.table c.work.inside.place c.work.inside.entry c.work.inside.job) c.args.work.now c.index-tables-work.result c.as_slice.result.now c.index-as_slice-work.result c.work.view_is c.requires.over c.tables.ensures c.index-tables-work.is c.as_slice.ensures c.index-as_slice-work.is in
    own_unblamed g.D.Disk c.args.disk.now c.args.store.now c.work.inside.table c.work.inside.place p c.in-Err.fault d own (work_fresh c.args.store.now (working c.work.inside.table c.work.inside.place c.work.inside.entry c.work.inside.job) c.args.work.now p c.work.view_is c.requires.over own) c.in-Err.ensures.blamed stands

pub install-requires-clause-there : goal.install-requires-clause-there
install-requires-clause-there g c =
    let p = c.index-as_slice-work.result.stored in
    let own : IsOwnAt c.args.store.now.stores c.work.inside.table c.work.inside.place p =
    work_own c.tables.result.now c.args.store.now (working c.work.inside.table c.work.inside.place c.work.inside.entry c.work.inside.job) c.args.work.now c.index-tables-work.result c.as_slice.result.now c.index-as_slice-work.result c.work.view_is c.requires.over c.tables.ensures c.index-tables-work.is c.as_slice.ensures c.index-as_slice-work.is in
    own_renewal c.args.store.now.stores c.work.inside.table c.work.inside.place p c.in-Ok.merged.entry c.in-Ok.ensures.entry own

pub install-requires-clause-reached : goal.install-requires-clause-reached
install-requires-clause-reached g c =
    let rooted : IsRooted c.args.store.now c.root-root.result.now = record { catalogue = c.root-root.ensures.root; entries = c.root-root.ensures.entries; valid = c.root-root.ensures.valid } in
    let p = c.index-as_slice-work.result.stored in
    let own : IsOwnAt c.args.store.now.stores c.work.inside.table c.work.inside.place p =
    work_own c.tables.result.now c.args.store.now (working c.work.inside.table c.work.inside.place c.work.inside.entry c.work.inside.job) c.args.work.now c.index-tables-work.result c.as_slice.result.now c.index-as_slice-work.result c.work.view_is c.requires.over c.tables.ensures c.index-tables-work.is c.as_slice.ensures c.index-as_slice-work.is in
    let valid = own_valid c.args.store.now c.root-root.result.now c.work.inside.table c.work.inside.place p rooted own in
    let mark = own_reached c.root-root.result.now p.entry (work_fresh c.args.store.now (working c.work.inside.table c.work.inside.place c.work.inside.entry c.work.inside.job) c.args.work.now p c.work.view_is c.requires.over own) valid in
    let same = ap (λ (k : Catalogue). k.ahm) rooted.catalogue in
    let later = c.in-Ok.ensures.later in
    omega (arith, mark, same, later)

pub returns-then-merged-last-clause-made : goal.returns-then-merged-last-clause-made
returns-then-merged-last-clause-made g c = λ d stands under.
    let rooted : IsRooted c.args.store.now c.root-root.result.now = record { catalogue = c.root-root.ensures.root; entries = c.root-root.ensures.entries; valid = c.root-root.ensures.valid } in
    let p = c.index-as_slice-work.result.stored in
    let own : IsOwnAt c.args.store.now.stores c.work.inside.table c.work.inside.place p =
    work_own c.tables.result.now c.args.store.now (working c.work.inside.table c.work.inside.place c.work.inside.entry c.work.inside.job) c.args.work.now c.index-tables-work.result c.as_slice.result.now c.index-as_slice-work.result c.work.view_is c.requires.over c.tables.ensures c.index-tables-work.is c.as_slice.ensures c.index-as_slice-work.is in
    let fresh = work_fresh c.args.store.now (working c.work.inside.table c.work.inside.place c.work.inside.entry c.work.inside.job) c.args.work.now p c.work.view_is c.requires.over own in
    rise_at (working c.work.inside.table c.work.inside.place c.work.inside.entry c.work.inside.job) c.args.work.now c.work.view_is
    (raise_fails g.D.Disk c.args.store.now c.root-root.result.now c.work.inside.table c.work.inside.place p fault.Memory d rooted own fresh (from_base g.D.Disk c.root-root.result.now.next c.args.work.now.job.draft.base (file_count (length p.entry.columns)) (sym c.requires.over.next ∙ ap (λ (k : Catalogue). k.next) c.root-root.ensures.root) c.end.ensures.moved) stands)

pub returns-clause-made : goal.returns-clause-made
returns-clause-made g c = λ d stands under.
    let rooted : IsRooted c.args.store.now c.root-root.result.now = record { catalogue = c.root-root.ensures.root; entries = c.root-root.ensures.entries; valid = c.root-root.ensures.valid } in
    let p = c.index-as_slice-work.result.stored in
    let own : IsOwnAt c.args.store.now.stores c.work.inside.table c.work.inside.place p =
    work_own c.tables.result.now c.args.store.now (working c.work.inside.table c.work.inside.place c.work.inside.entry c.work.inside.job) c.args.work.now c.index-tables-work.result c.as_slice.result.now c.index-as_slice-work.result c.work.view_is c.requires.over c.tables.ensures c.index-tables-work.is c.as_slice.ensures c.index-as_slice-work.is in
    let fresh = work_fresh c.args.store.now (working c.work.inside.table c.work.inside.place c.work.inside.entry c.work.inside.job) c.args.work.now p c.work.view_is c.requires.over own in
    let valid = own_valid c.args.store.now c.root-root.result.now c.work.inside.table c.work.inside.place p rooted own in
    let entry = c.in-Ok.merged.entry in
    let closed : entry.lge ≤ c.args.store.now.catalogue.last = omega (arith, c.if-merged-last.false, c.last.ensures) in
    rise_at (working c.work.inside.table c.work.inside.place c.work.inside.entry c.work.inside.job) c.args.work.now c.work.view_is
    (raises g.D.Disk {mid = c.end.new.disk} c.args.store.now c.install.new.self c.root-root.result.now c.work.inside.table c.work.inside.place p entry c.install.result d rooted own fresh
    (own_below c.root-root.result.now p.entry valid) c.in-Ok.ensures.entry c.in-Ok.ensures.later closed (from_base g.D.Disk c.root-root.result.now.next c.args.work.now.job.draft.base (file_count (length p.entry.columns)) (sym c.requires.over.next ∙ ap (λ (k : Catalogue). k.next) c.root-root.ensures.root) c.end.ensures.moved) (ends_keeping g.D.Disk c.root-root.result.now.next c.root-root.result.now.ahm p c.in-Ok.merged.entry c.args.work.now (sym c.requires.over.next ∙ ap (λ (k : Catalogue). k.next) c.root-root.ensures.root) (sym c.requires.over.mark ∙ ap (λ (k : Catalogue). k.ahm) c.root-root.ensures.root) under c.in-Ok.ensures.keeps) c.install.ensures.made stands)

pub returns-clause-drawn : goal.returns-clause-drawn
returns-clause-drawn g c =
    let rooted : IsRooted c.args.store.now c.root-root.result.now = record { catalogue = c.root-root.ensures.root; entries = c.root-root.ensures.entries; valid = c.root-root.ensures.valid } in
    let p = c.index-as_slice-work.result.stored in
    let own : IsOwnAt c.args.store.now.stores c.work.inside.table c.work.inside.place p =
    work_own c.tables.result.now c.args.store.now (working c.work.inside.table c.work.inside.place c.work.inside.entry c.work.inside.job) c.args.work.now c.index-tables-work.result c.as_slice.result.now c.index-as_slice-work.result c.work.view_is c.requires.over c.tables.ensures c.index-tables-work.is c.as_slice.ensures c.index-as_slice-work.is in
    let fresh = work_fresh c.args.store.now (working c.work.inside.table c.work.inside.place c.work.inside.entry c.work.inside.job) c.args.work.now p c.work.view_is c.requires.over own in
    let entry = c.in-Ok.merged.entry in
    let next = c.requires.over.next in
    let from = c.in-Ok.ensures.next in
    let upto = c.in-Ok.ensures.upto in
    subst (λ (x : Working). OnOk c.install.result (OfProjection x.table x.place c.args.store.now.catalogue (DrawsMerged x.table x.place c.args.store.now.catalogue c.install.new.self.catalogue))) c.work.view_is
    (on_ok_weaker c.install.result (λ same. own_entry c.args.store.now c.root-root.result.now c.work.inside.table c.work.inside.place p (DrawsMerged c.work.inside.table c.work.inside.place c.args.store.now.catalogue c.install.new.self.catalogue) rooted own
    (draws_merged c.args.store.now c.install.new.self c.work.inside.table c.work.inside.place c.in-Ok.merged.next p.entry entry same (omega (arith, next, from)) (omega (arith, next, upto)) c.in-Ok.ensures.count))
    c.install.ensures.catalogue)

pub returns-clause-unblamed : goal.returns-clause-unblamed
returns-clause-unblamed g c =
    let rooted : IsRooted c.args.store.now c.root-root.result.now = record { catalogue = c.root-root.ensures.root; entries = c.root-root.ensures.entries; valid = c.root-root.ensures.valid } in
    let p = c.index-as_slice-work.result.stored in
    let own : IsOwnAt c.args.store.now.stores c.work.inside.table c.work.inside.place p =
    work_own c.tables.result.now c.args.store.now (working c.work.inside.table c.work.inside.place c.work.inside.entry c.work.inside.job) c.args.work.now c.index-tables-work.result c.as_slice.result.now c.index-as_slice-work.result c.work.view_is c.requires.over c.tables.ensures c.index-tables-work.is c.as_slice.ensures c.index-as_slice-work.is in
    let fresh = work_fresh c.args.store.now (working c.work.inside.table c.work.inside.place c.work.inside.entry c.work.inside.job) c.args.work.now p c.work.view_is c.requires.over own in
    let valid = own_valid c.args.store.now c.root-root.result.now c.work.inside.table c.work.inside.place p rooted own in
    err_weaker c.install.result (λ f blames d stands under.
    let (n, held, told, holds) = raised_holds g.D.Disk {mid = c.end.new.disk} c.args.store.now c.root-root.result.now c.work.inside.table c.work.inside.place p c.in-Ok.merged.entry d rooted own fresh (own_below c.root-root.result.now p.entry valid) (from_base g.D.Disk c.root-root.result.now.next c.args.work.now.job.draft.base (file_count (length p.entry.columns)) (sym c.requires.over.next ∙ ap (λ (k : Catalogue). k.next) c.root-root.ensures.root) c.end.ensures.moved) (ends_keeping g.D.Disk c.root-root.result.now.next c.root-root.result.now.ahm p c.in-Ok.merged.entry c.args.work.now (sym c.requires.over.next ∙ ap (λ (k : Catalogue). k.next) c.root-root.ensures.root) (sym c.requires.over.mark ∙ ap (λ (k : Catalogue). k.ahm) c.root-root.ensures.root) under c.in-Ok.ensures.keeps) stands in
    blames n held told holds) c.install.ensures.unblamed

pub returns-in-Err-clause-named : goal.returns-in-Err-clause-named
returns-in-Err-clause-named g c = λ m told.
    let rooted : IsRooted c.args.store.now c.root-root.result.now = record { catalogue = c.root-root.ensures.root; entries = c.root-root.ensures.entries; valid = c.root-root.ensures.valid } in
    let p = c.index-as_slice-work.result.stored in
    let own : IsOwnAt c.args.store.now.stores c.work.inside.table c.work.inside.place p =
    work_own c.tables.result.now c.args.store.now (working c.work.inside.table c.work.inside.place c.work.inside.entry c.work.inside.job) c.args.work.now c.index-tables-work.result c.as_slice.result.now c.index-as_slice-work.result c.work.view_is c.requires.over c.tables.ensures c.index-tables-work.is c.as_slice.ensures c.index-as_slice-work.is in
    let below = own_below c.root-root.result.now p.entry (own_valid c.args.store.now c.root-root.result.now c.work.inside.table c.work.inside.place p rooted own) in
    entry_held c.args.store.now.stores c.work.inside.table c.work.inside.place p m c.in-Err.fault own (rows_named g.D.Disk p.entry c.root-root.result.now.next c.in-Err.fault below (from_base g.D.Disk c.root-root.result.now.next c.args.work.now.job.draft.base (file_count (length p.entry.columns)) (sym c.requires.over.next ∙ ap (λ (k : Catalogue). k.next) c.root-root.ensures.root) c.end.ensures.moved) c.in-Err.ensures.blamed m told)

pub returns-clause-named : goal.returns-clause-named
returns-clause-named g c =
    let rooted : IsRooted c.args.store.now c.root-root.result.now = record { catalogue = c.root-root.ensures.root; entries = c.root-root.ensures.entries; valid = c.root-root.ensures.valid } in
    let p = c.index-as_slice-work.result.stored in
    let own : IsOwnAt c.args.store.now.stores c.work.inside.table c.work.inside.place p =
    work_own c.tables.result.now c.args.store.now (working c.work.inside.table c.work.inside.place c.work.inside.entry c.work.inside.job) c.args.work.now c.index-tables-work.result c.as_slice.result.now c.index-as_slice-work.result c.work.view_is c.requires.over c.tables.ensures c.index-tables-work.is c.as_slice.ensures c.index-as_slice-work.is in
    let below = own_below c.root-root.result.now p.entry (own_valid c.args.store.now c.root-root.result.now c.work.inside.table c.work.inside.place p rooted own) in
    on_errs c.install.result (BlamesLoad c.in-Ok.merged.entry.containers (g.D.Disk.holds c.end.new.disk)) (λ f. (IsUnblamed f → ⊥) → g.D.Disk.holds c.install.new.disk ≡ g.D.Disk.holds c.end.new.disk)
    (λ f. (m : Contents) → g.D.Disk.holds c.install.new.disk ≡ Some m → BlamesHeld c.args.store.now.stores (Some m) f)
    (λ f blames still m told.
    entry_held c.args.store.now.stores c.work.inside.table c.work.inside.place p m f own
    (install_named g.D.Disk p.entry c.root-root.result.now.next f below (from_base g.D.Disk c.root-root.result.now.next c.args.work.now.job.draft.base (file_count (length p.entry.columns)) (sym c.requires.over.next ∙ ap (λ (k : Catalogue). k.next) c.root-root.ensures.root) c.end.ensures.moved) (c.in-Ok.ensures.loads (subst (λ (n : ℕ). IsListedBelow n p.entry) (sym (sym c.requires.over.next ∙ ap (λ (k : Catalogue). k.next) c.root-root.ensures.root)) below) f blames) still m told))
    c.install.ensures.blamed c.install.ensures.unwritten
