use Rattle.std.proofs.Common.{◌<◌, length, set, subst, rules, ap, arith}
use Rattle.col_disk.specs.declared.disk.DiskFault.TheVariants as disk_fault
use Rattle.store_commit.specs.Seen.{Seen}
use Rattle.store_commit.proofs.Settled.{made_nothing}
use Rattle.table_store.specs.Drawing.{DrawsOne}
use Rattle.table_store.specs.Held.{at_epoch}
use Rattle.table_store.specs.Widening.{widened_at}
use Rattle.table_store.proofs.Drawn.{one_drawn}
use Rattle.table_store.proofs.Makes.{settled_not, settled_done}
use Rattle.table_store.proofs.Shaped.{table_there}
use Rattle.table_store.proofs.Wider.{can_still, columns_there, parts_applied, wide_draws, wide_held, wide_makes, wide_seen}
use Rattle.catalog_types.specs.declared.catalogue.Catalogue.{Catalogue}
use Rattle.table_store.proofs.store.TableStore.add_column.Goals as goal

pub returns-then-not-is_value-clause-made : goal.returns-then-not-is_value-clause-made
returns-then-not-is_value-clause-made g c = λ d stands sound.
    made_nothing g.D.Disk c.args.self.now c.args.self.now disk_fault.Memory d (widened_at c.args.table c.args.column.now c.args.default.now d) stands

pub returns-in-Err-clause-made : goal.returns-in-Err-clause-made
returns-in-Err-clause-made g c = λ d stands sound.
    made_nothing g.D.Disk c.args.self.now c.args.self.now disk_fault.Memory d (widened_at c.args.table c.args.column.now c.args.default.now d) stands

pub index-requires : goal.index-requires
index-requires g c =
    let lt : c.args.table < length c.self.inside.tables.items = table_there c.self.inside.root c.self.inside.last c.self.inside.tables.items c.args.self.now c.args.table c.self.view_is c.self.invariant c.requires in
    search rules

pub returns-in-Err-prepare_column-clause-made : goal.returns-in-Err-prepare_column-clause-made
returns-in-Err-prepare_column-clause-made g c = λ d stands sound.
    made_nothing g.D.Disk c.args.self.now c.args.self.now disk_fault.Memory d (widened_at c.args.table c.args.column.now c.args.default.now d) stands

pub returns-in-Err-settle-clause-made : goal.returns-in-Err-settle-clause-made
returns-in-Err-settle-clause-made g c = λ d stands sound.
    let root = c.self.inside.root in
    let last = c.self.inside.last in
    let items = c.self.inside.tables.items in
    let columns = c.as_slice-columns.result.now in
    let there = columns_there root last items c.args.self.now c.args.table c.as_slice.result.now c.index-as_slice-table.result columns c.self.view_is c.requires c.as_slice.ensures c.as_slice-columns.ensures in
    settled_not g.D.Disk c.args.self.now _ _ c.in-Err-settle.fault d (widened_at c.args.table c.args.column.now c.args.default.now d)
    (wide_makes g.D.Disk root last items c.args.self.now c.args.table c.args.column.now c.args.default.now columns c.in-Ok.catalogue _ d c.in-Err-settle.ensures.made
    c.self.view_is c.self.invariant there c.in-Ok.ensures.catalogue stands sound)

pub index_mut-requires : goal.index_mut-requires
index_mut-requires g c =
    let lt : c.args.table < length c.self.inside.tables.items = table_there c.self.inside.root c.self.inside.last c.self.inside.tables.items c.args.self.now c.args.table c.self.view_is c.self.invariant c.requires in
    search rules

pub apply_column-requires : goal.apply_column-requires
apply_column-requires g c =
    let items = c.self.inside.tables.items in
    let lt = table_there c.self.inside.root c.self.inside.last items c.args.self.now c.args.table c.self.view_is c.self.invariant c.requires in
    can_still items c.args.table c.index.result.now c.index_mut.result.now c.in-Ok-prepare_column.ready.items lt c.index.ensures c.index_mut.ensures.value c.in-Ok-prepare_column.ensures.ready

pub invariant_of-self : goal.invariant_of-self
invariant_of-self g c =
    let root = c.self.inside.root in
    let last = c.self.inside.last in
    let items = c.self.inside.tables.items in
    let columns = c.as_slice-columns.result.now in
    let lt = table_there root last items c.args.self.now c.args.table c.self.view_is c.self.invariant c.requires in
    let there = columns_there root last items c.args.self.now c.args.table c.as_slice.result.now c.index-as_slice-table.result columns c.self.view_is c.requires c.as_slice.ensures c.as_slice-columns.ensures in
    let stores = parts_applied items c.args.table columns c.args.default.now c.index.result.now c.index_mut.result.now c.apply_column.new.self c.in-Ok-prepare_column.ready.items lt c.index.ensures c.index_mut.ensures.value
    c.in-Ok-prepare_column.ensures.made c.apply_column.ensures in
    wide_held items (set items c.args.table c.apply_column.new.self) root last c.args.table c.args.column.now c.args.default.now columns c.in-Ok.catalogue stores c.in-Ok.ensures.catalogue there c.self.invariant c.in-Ok.ensures.valid

pub returns-clause-made : goal.returns-clause-made
returns-clause-made g c = λ d stands sound.
    let root = c.self.inside.root in
    let last = c.self.inside.last in
    let items = c.self.inside.tables.items in
    let columns = c.as_slice-columns.result.now in
    let lt = table_there root last items c.args.self.now c.args.table c.self.view_is c.self.invariant c.requires in
    let there = columns_there root last items c.args.self.now c.args.table c.as_slice.result.now c.index-as_slice-table.result columns c.self.view_is c.requires c.as_slice.ensures c.as_slice-columns.ensures in
    let stores = parts_applied items c.args.table columns c.args.default.now c.index.result.now c.index_mut.result.now c.apply_column.new.self c.in-Ok-prepare_column.ready.items lt c.index.ensures c.index_mut.ensures.value
    c.in-Ok-prepare_column.ensures.made c.apply_column.ensures in
    settled_done g.D.Disk c.args.self.now _ _ d (widened_at c.args.table c.args.column.now c.args.default.now d)
    (wide_seen items (set items c.args.table c.apply_column.new.self) root last c.args.table c.args.column.now c.args.default.now columns c.in-Ok.catalogue stores c.in-Ok.ensures.catalogue)
    (wide_makes g.D.Disk root last items c.args.self.now c.args.table c.args.column.now c.args.default.now columns c.in-Ok.catalogue _ d c.in-Ok-settle.ensures.made
    c.self.view_is c.self.invariant there c.in-Ok.ensures.catalogue stands sound)

pub returns-clause-drawn : goal.returns-clause-drawn
returns-clause-drawn g c =
    let root = c.self.inside.root in
    let last = c.self.inside.last in
    subst (λ (s : Seen). DrawsOne s.catalogue (at_epoch last c.in-Ok.catalogue)) c.self.view_is
    (one_drawn root c.in-Ok.catalogue last last (wide_draws root c.in-Ok.catalogue last c.args.table c.args.column.now c.args.default.now c.in-Ok.ensures.catalogue))

pub settle-requires-clause-drawn : goal.settle-requires-clause-drawn
settle-requires-clause-drawn g c = omega (arith, ap (λ (k : Catalogue). k.next) c.in-Ok.ensures.catalogue)
