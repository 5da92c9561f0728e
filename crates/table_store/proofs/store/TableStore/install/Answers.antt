use Rattle.std.proofs.Common.{◌≤◌, ◌<◌, map, length, set, rules, sym, ◌∙◌, ap, subst, arith}
use Rattle.std.specs.Prelude.{Err}
use Rattle.col_disk.specs.Faults.{IsUnblamed}
use Rattle.col_disk.specs.declared.disk.StoreFault.{StoreFault}
use Rattle.col_disk.specs.declared.disk.StoreFault.TheVariants as fault
use Rattle.store_commit.specs.Seen.{Seen}
use Rattle.store_commit.specs.Making.{Makes}
use Rattle.catalog_types.specs.declared.catalogue.Projection.{Projection}
use Rattle.sound_laws.specs.Moves.{change_at, reached_at}
use Rattle.table_store.specs.Held.{projections_of}
use Rattle.table_store.specs.Installing.{IsRenewalAt}
use Rattle.table_store.specs.Moving.{with_entry_at}
use Rattle.table_store.proofs.Installed.{install_made, nothing_done, read_only, renewed_table, renewed_place}
use Rattle.table_store.proofs.Makes.{move_held, move_seen, store_done, store_makes}
use Rattle.table_store.proofs.Moved.{stores_moved}
use Rattle.table_store.proofs.Shapes.{renewed_shape}
use Rattle.proj_store.specs.Reading.{BlamesLoad}
use Rattle.table_store.proofs.Moves.{disk_loads}
use Rattle.table_store.proofs.Unblamed.{load_unblamed, of_disk}
use Rattle.catalog_types.specs.declared.catalogue.Catalogue.{Catalogue}
use Rattle.table_store.proofs.store.TableStore.install.Goals as goal

pub returns-then-next-ge-MOST_NUMBERS-clause-made : goal.returns-then-next-ge-MOST_NUMBERS-clause-made
returns-then-next-ge-MOST_NUMBERS-clause-made g c = λ d stands holds.
    nothing_done g.D.Disk fault.Memory c.args.disk.now c.args.self.now fault.Memory d (reached_at c.args.entry.lge c.args.table c.args.place d) stands

pub returns-in-Err-clause-made : goal.returns-in-Err-clause-made
returns-in-Err-clause-made g c = λ d stands holds.
    read_only g.D.Disk fault.Memory c.args.self.now c.args.self.now c.in-Err.fault d (reached_at c.args.entry.lge c.args.table c.args.place d) stands c.read_again.ensures.looks

pub with_entry_at-requires-clause-shape : goal.with_entry_at-requires-clause-shape
with_entry_at-requires-clause-shape g c =
    let own : IsRenewalAt (map projections_of c.self.inside.tables.items) c.args.table c.args.place c.args.entry =
    subst (λ (s : Seen). IsRenewalAt s.stores c.args.table c.args.place c.args.entry) (sym c.self.view_is) c.requires.there in
    renewed_shape c.self.inside.root (map projections_of c.self.inside.tables.items) c.args.table c.args.place c.args.entry c.self.invariant.entries own

pub returns-in-Err-with_entry_at-clause-made : goal.returns-in-Err-with_entry_at-clause-made
returns-in-Err-with_entry_at-clause-made g c = λ d stands holds.
    read_only g.D.Disk fault.Memory c.args.self.now c.args.self.now fault.Memory d (reached_at c.args.entry.lge c.args.table c.args.place d) stands c.read_again.ensures.looks

pub returns-in-Err-clause-unblamed : goal.returns-in-Err-clause-unblamed
returns-in-Err-clause-unblamed g c = λ m held told holds. load_unblamed m (g.D.Disk.holds c.args.disk.now) c.args.entry held c.in-Err.fault told holds c.in-Err.ensures.blamed

pub returns-in-Err-settle-clause-made : goal.returns-in-Err-settle-clause-made
returns-in-Err-settle-clause-made g c = λ d stands holds.
    let items = c.self.inside.tables.items in
    let i = c.args.table in
    let j = c.args.place in
    let own : IsRenewalAt (map projections_of items) i j c.args.entry = subst (λ (s : Seen). IsRenewalAt s.stores i j c.args.entry) (sym c.self.view_is) c.requires.there in
    subst (λ (f : StoreFault). Makes g.D.Disk fault.Memory c.args.self.now c.args.self.now c.args.disk.now c.settle.new.disk (Err f) d (reached_at c.args.entry.lge i j d)) (sym c.from.ensures)
    (store_makes g.D.Disk c.args.self.now _ c.args.self.now c.in-Err-settle.fault d (reached_at c.args.entry.lge i j d)
    (install_made c.what_is_read_is_stored.ensures.stored g.D.Disk c.self.inside.root c.in-Ok-with_entry_at.catalogue c.self.inside.last (map projections_of items) c.args.self.now i j c.args.next c.in-Ok.store.stored c.args.entry _ d
    c.in-Err-settle.ensures.made c.self.view_is own c.in-Ok.ensures.entry c.in-Ok.ensures.loaded c.read_again.ensures.looks c.in-Ok-with_entry_at.ensures.catalogue
    (subst (λ (s : Seen). s.catalogue.next ≤ c.args.next) (sym c.self.view_is) c.requires.drawn) (subst (λ (s : Seen). s.catalogue.ahm ≤ c.args.entry.lge) (sym c.self.view_is) c.requires.reached)
    (subst (λ (s : Seen). c.args.entry.lge ≤ s.catalogue.last) (sym c.self.view_is) c.requires.closed) stands holds))

pub index_mut-requires : goal.index_mut-requires
index_mut-requires g c =
    let items = c.self.inside.tables.items in
    let own : IsRenewalAt (map projections_of items) c.args.table c.args.place c.args.entry = subst (λ (s : Seen). IsRenewalAt s.stores c.args.table c.args.place c.args.entry) (sym c.self.view_is) c.requires.there in
    let lt : c.args.table < length items = renewed_table items c.args.table c.args.place c.args.entry own in
    search rules

pub replace-requires : goal.replace-requires
replace-requires g c =
    let items = c.self.inside.tables.items in
    renewed_place items c.args.table c.args.place c.args.entry c.index_mut.result.now c.index_mut.ensures.value
    (subst (λ (s : Seen). IsRenewalAt s.stores c.args.table c.args.place c.args.entry) (sym c.self.view_is) c.requires.there)

pub invariant_of-self : goal.invariant_of-self
invariant_of-self g c =
    let items = c.self.inside.tables.items in
    let i = c.args.table in
    let j = c.args.place in
    let own : IsRenewalAt (map projections_of items) i j c.args.entry = subst (λ (s : Seen). IsRenewalAt s.stores i j c.args.entry) (sym c.self.view_is) c.requires.there in
    move_held c.self.inside.root c.in-Ok-with_entry_at.catalogue c.self.inside.last c.args.next i j items (set items i c.replace.new.self) c.index_mut.result.now c.in-Ok.store
    (renewed_table items i j c.args.entry own) c.index_mut.ensures.value (renewed_place items i j c.args.entry c.index_mut.result.now c.index_mut.ensures.value own) (ap (set items i) c.replace.ensures)
    (c.in-Ok-with_entry_at.ensures.catalogue ∙ ap (λ (e : Projection). with_entry_at c.self.inside.last c.args.next i j e c.self.inside.root) (sym c.in-Ok.ensures.entry)) c.self.invariant c.in-Ok-with_entry_at.ensures.valid

pub returns-clause-made : goal.returns-clause-made
returns-clause-made g c = λ d stands holds.
    let items = c.self.inside.tables.items in
    let i = c.args.table in
    let j = c.args.place in
    let own : IsRenewalAt (map projections_of items) i j c.args.entry = subst (λ (s : Seen). IsRenewalAt s.stores i j c.args.entry) (sym c.self.view_is) c.requires.there in
    store_done g.D.Disk c.args.self.now _ _ d (reached_at c.args.entry.lge i j d)
    (move_seen c.self.inside.root c.in-Ok-with_entry_at.catalogue c.self.inside.last c.args.next i j items (set items i c.replace.new.self) c.index_mut.result.now c.in-Ok.store
    (renewed_table items i j c.args.entry own) c.index_mut.ensures.value (renewed_place items i j c.args.entry c.index_mut.result.now c.index_mut.ensures.value own) (ap (set items i) c.replace.ensures)
    (c.in-Ok-with_entry_at.ensures.catalogue ∙ ap (λ (e : Projection). with_entry_at c.self.inside.last c.args.next i j e c.self.inside.root) (sym c.in-Ok.ensures.entry)))
    (install_made c.what_is_read_is_stored.ensures.stored g.D.Disk c.self.inside.root c.in-Ok-with_entry_at.catalogue c.self.inside.last (map projections_of items) c.args.self.now i j c.args.next c.in-Ok.store.stored c.args.entry _ d
    c.in-Ok-settle.ensures.made c.self.view_is own c.in-Ok.ensures.entry c.in-Ok.ensures.loaded c.read_again.ensures.looks c.in-Ok-with_entry_at.ensures.catalogue
    (subst (λ (s : Seen). s.catalogue.next ≤ c.args.next) (sym c.self.view_is) c.requires.drawn) (subst (λ (s : Seen). s.catalogue.ahm ≤ c.args.entry.lge) (sym c.self.view_is) c.requires.reached)
    (subst (λ (s : Seen). c.args.entry.lge ≤ s.catalogue.last) (sym c.self.view_is) c.requires.closed) stands holds)

pub settle-requires-clause-drawn : goal.settle-requires-clause-drawn
settle-requires-clause-drawn g c = omega (arith, ap (λ (k : Catalogue). k.next) c.in-Ok-with_entry_at.ensures.catalogue)

pub returns-in-Err-settle-clause-blamed : goal.returns-in-Err-settle-clause-blamed
returns-in-Err-settle-clause-blamed g c =
    let h = g.D.Disk.holds c.args.disk.now in
    subst (λ (f : StoreFault). BlamesLoad c.args.entry.containers h f) (sym c.from.ensures) (disk_loads c.args.entry.containers h c.in-Err-settle.fault)

pub returns-in-Err-clause-unwritten : goal.returns-in-Err-clause-unwritten
returns-in-Err-clause-unwritten g c = λ blames. c.read_again.ensures.looks.contents

pub returns-in-Err-with_entry_at-clause-unwritten : goal.returns-in-Err-with_entry_at-clause-unwritten
returns-in-Err-with_entry_at-clause-unwritten g c = λ blames. c.read_again.ensures.looks.contents

pub returns-in-Err-settle-clause-unwritten : goal.returns-in-Err-settle-clause-unwritten
returns-in-Err-settle-clause-unwritten g c = λ blames. absurd (blames (subst IsUnblamed (sym c.from.ensures) (of_disk c.in-Err-settle.fault)))

pub returns-clause-puts : goal.returns-clause-puts
returns-clause-puts g c =
    let items = c.self.inside.tables.items in
    let i = c.args.table in
    let j = c.args.place in
    let own : IsRenewalAt (map projections_of items) i j c.args.entry = subst (λ (s : Seen). IsRenewalAt s.stores i j c.args.entry) (sym c.self.view_is) c.requires.there in
    record {
      store = c.in-Ok.store.stored;
      is = c.in-Ok.ensures.entry;
      loaded = c.in-Ok.ensures.loaded;
      stores =
          stores_moved items (set items i c.replace.new.self) i j c.index_mut.result.now c.in-Ok.store (renewed_table items i j c.args.entry own) c.index_mut.ensures.value
          (renewed_place items i j c.args.entry c.index_mut.result.now c.index_mut.ensures.value own) (ap (set items i) c.replace.ensures)
          ∙ ap (λ (s : Seen). change_at i (change_at j (λ p. c.in-Ok.store.stored)) s.stores) c.self.view_is;
    }
