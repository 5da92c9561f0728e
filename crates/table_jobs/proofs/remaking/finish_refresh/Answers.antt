use Rattle.std.proofs.Common.{◌≡◌, ℕ, length, sym, ◌∙◌, ap, subst}
use Rattle.std.specs.Prelude.{List, Some}
use Rattle.std.proofs.lemmas.Result.{on_ok_weaker}
use Rattle.common_laws.specs.Maps.{Contents}
use Rattle.col_disk.specs.Faults.{IsUnblamed}
use Rattle.col_disk.specs.declared.disk.StoreFault.{StoreFault}
use Rattle.col_value.specs.declared.row.Stamped.{Stamped}
use Rattle.container_cut.proofs.Faults.{on_errs}
use Rattle.db_model.specs.Database.{Database}
use Rattle.proj_store.specs.Reading.{BlamesLoad}
use Rattle.stored_rows.specs.Held.{Holds}
use Rattle.store_commit.specs.Seen.{Stands}
use Rattle.table_store.specs.Faults.{BlamesHeld}
use Rattle.table_store.specs.Installing.{IsRenewalAt}
use Rattle.table_store.specs.Moving.{with_entry_at}
use Rattle.table_jobs.specs.Remaking.{remaking, IsBeingMade, Remaking}
use Rattle.table_jobs.proofs.BeingMade.{fault_held, fault_unblamed, finish_draws, finish_fails, finish_holds, finish_loads, finish_reaches, finish_there, finishes, remake_own, Installs}
use Rattle.table_jobs.proofs.Holding.{IsOwnAt}
use Rattle.table_jobs.proofs.Named.{made_named}
use Rattle.table_jobs.proofs.Raising.{IsRooted}
use Rattle.table_jobs.proofs.Remade.{of_fault}
use Rattle.table_jobs.proofs.remaking.finish_refresh.Goals as goal

pub returns-in-Err-clause-made : goal.returns-in-Err-clause-made
returns-in-Err-clause-made g c = λ d stands under.
    let s = c.args.store.now in
    let v = c.args.work.now in
    let root = c.root-root.result.now in
    let rooted : IsRooted s root = record { catalogue = c.root-root.ensures.root; entries = c.root-root.ensures.entries; valid = c.root-root.ensures.valid } in
    let p = c.index-as_slice-work.result.stored in
    let x = remaking c.work.inside.table c.work.inside.place c.work.inside.shape c.work.inside.from c.work.inside.source c.work.inside.job in
    let own : IsOwnAt s.stores v.table v.from p = subst (λ (y : Remaking). IsOwnAt s.stores y.table y.from p) c.work.view_is
    (remake_own c.tables.result.now s x v c.index-tables-work.result c.as_slice.result.now c.index-as_slice-work.result c.work.view_is c.requires.over c.tables.ensures c.index-tables-work.is c.as_slice.ensures c.index-as_slice-work.is) in
    finish_fails g.D.Disk s root v p c.from.result d rooted c.requires.over own c.end.ensures.moved stands

pub returns-in-Err-clause-unblamed : goal.returns-in-Err-clause-unblamed
returns-in-Err-clause-unblamed g c = λ d stands under. subst IsUnblamed (sym c.from.ensures) (fault_unblamed c.in-Err.fault)

pub returns-in-Err-clause-named : goal.returns-in-Err-clause-named
returns-in-Err-clause-named g c = λ m told. subst (λ (f : StoreFault). BlamesHeld c.args.store.now.stores (Some m) f) (sym c.from.ensures) (fault_held c.args.store.now.stores (Some m) c.in-Err.fault)

pub install-requires-clause-there : goal.install-requires-clause-there
install-requires-clause-there g c =
    let s = c.args.store.now in
    let v = c.args.work.now in
    let root = c.root-root.result.now in
    let rooted : IsRooted s root = record { catalogue = c.root-root.ensures.root; entries = c.root-root.ensures.entries; valid = c.root-root.ensures.valid } in
    let entry = c.in-Ok.refreshed.entry in
    subst (λ (y : Remaking). IsRenewalAt s.stores y.table y.place entry) (sym c.work.view_is) (finish_there s root v entry rooted c.requires.over c.in-Ok.ensures.entry)

pub install-requires-clause-loadable : goal.install-requires-clause-loadable
install-requires-clause-loadable g c =
    let s = c.args.store.now in
    let v = c.args.work.now in
    let root = c.root-root.result.now in
    let rooted : IsRooted s root = record { catalogue = c.root-root.ensures.root; entries = c.root-root.ensures.entries; valid = c.root-root.ensures.valid } in
    finish_loads s root v c.in-Ok.refreshed.entry rooted c.requires.over c.in-Ok.ensures.loadable

pub returns-clause-made : goal.returns-clause-made
returns-clause-made g c = λ d stands under.
    let s = c.args.store.now in
    let v = c.args.work.now in
    let root = c.root-root.result.now in
    let rooted : IsRooted s root = record { catalogue = c.root-root.ensures.root; entries = c.root-root.ensures.entries; valid = c.root-root.ensures.valid } in
    let p = c.index-as_slice-work.result.stored in
    let x = remaking c.work.inside.table c.work.inside.place c.work.inside.shape c.work.inside.from c.work.inside.source c.work.inside.job in
    let own : IsOwnAt s.stores v.table v.from p = subst (λ (y : Remaking). IsOwnAt s.stores y.table y.from p) c.work.view_is
    (remake_own c.tables.result.now s x v c.index-tables-work.result c.as_slice.result.now c.index-as_slice-work.result c.work.view_is c.requires.over c.tables.ensures c.index-tables-work.is c.as_slice.ensures c.index-as_slice-work.is) in
    let entry = c.in-Ok.refreshed.entry in
    finishes g.D.Disk s c.install.new.self root v p entry c.install.result d rooted c.requires.over own (c.in-Ok.ensures.reached ∙ c.last-last.ensures) c.end.ensures.moved under c.in-Ok.ensures.made
    (subst (λ (y : Remaking). Installs g.D.Disk c.end.new.disk c.install.new.disk s c.install.new.self y entry c.install.result) c.work.view_is c.install.ensures.made) stands

pub returns-clause-drawn : goal.returns-clause-drawn
returns-clause-drawn g c =
    let s = c.args.store.now in
    let v = c.args.work.now in
    let root = c.root-root.result.now in
    let rooted : IsRooted s root = record { catalogue = c.root-root.ensures.root; entries = c.root-root.ensures.entries; valid = c.root-root.ensures.valid } in
    let r = c.in-Ok.refreshed in
    on_ok_weaker c.install.result (λ same.
    finish_draws s c.install.new.self root v r.next r.entry rooted c.requires.over
    (subst (λ (y : Remaking). c.install.new.self.catalogue ≡ with_entry_at s.catalogue.last r.next y.table y.place r.entry s.catalogue) c.work.view_is same) c.in-Ok.ensures.next c.in-Ok.ensures.upto c.in-Ok.ensures.count)
    c.install.ensures.catalogue

pub returns-clause-reached : goal.returns-clause-reached
returns-clause-reached g c =
    let s = c.args.store.now in
    let v = c.args.work.now in
    let root = c.root-root.result.now in
    let rooted : IsRooted s root = record { catalogue = c.root-root.ensures.root; entries = c.root-root.ensures.entries; valid = c.root-root.ensures.valid } in
    let r = c.in-Ok.refreshed in
    on_ok_weaker c.install.result (λ same.
    finish_reaches s c.install.new.self root v r.next r.entry rooted c.requires.over c.in-Ok.ensures.entry (c.in-Ok.ensures.reached ∙ c.last-last.ensures)
    (subst (λ (y : Remaking). c.install.new.self.catalogue ≡ with_entry_at s.catalogue.last r.next y.table y.place r.entry s.catalogue) c.work.view_is same))
    c.install.ensures.catalogue

pub returns-clause-unblamed : goal.returns-clause-unblamed
returns-clause-unblamed g c =
    let s = c.args.store.now in
    let v = c.args.work.now in
    let root = c.root-root.result.now in
    let rooted : IsRooted s root = record { catalogue = c.root-root.ensures.root; entries = c.root-root.ensures.entries; valid = c.root-root.ensures.valid } in
    let p = c.index-as_slice-work.result.stored in
    let x = remaking c.work.inside.table c.work.inside.place c.work.inside.shape c.work.inside.from c.work.inside.source c.work.inside.job in
    let own : IsOwnAt s.stores v.table v.from p = subst (λ (y : Remaking). IsOwnAt s.stores y.table y.from p) c.work.view_is
    (remake_own c.tables.result.now s x v c.index-tables-work.result c.as_slice.result.now c.index-as_slice-work.result c.work.view_is c.requires.over c.tables.ensures c.index-tables-work.is c.as_slice.ensures c.index-as_slice-work.is) in
    let entry = c.in-Ok.refreshed.entry in
    of_fault c.install.result (λ f. (m : Contents) (held : List Stamped) → g.D.Disk.holds c.end.new.disk ≡ Some m → Holds m entry held → IsUnblamed f)
    (λ f. (d : Database) → Stands g.D.Disk s c.args.disk.now d → ((m : Contents) → g.D.Disk.holds c.args.disk.now ≡ Some m → IsBeingMade m v) → IsUnblamed f)
    (λ f blames d stands under.
    let (n, held, told, holds) = finish_holds g.D.Disk s root v p entry d rooted c.requires.over own c.end.ensures.moved under c.in-Ok.ensures.made stands in
    blames n held told holds) c.install.ensures.unblamed

pub returns-clause-named : goal.returns-clause-named
returns-clause-named g c =
    let r = c.in-Ok.refreshed in
    on_errs c.install.result (BlamesLoad r.entry.containers (g.D.Disk.holds c.end.new.disk)) (λ f. (IsUnblamed f → ⊥) → g.D.Disk.holds c.install.new.disk ≡ g.D.Disk.holds c.end.new.disk)
    (λ f. (m : Contents) → g.D.Disk.holds c.install.new.disk ≡ Some m → BlamesHeld c.args.store.now.stores (Some m) f)
    (λ f blames still m told. made_named g.D.Disk r.next r.entry.containers c.args.store.now.stores f c.in-Ok.ensures.vectors blames still m told) c.install.ensures.blamed c.install.ensures.unwritten
