use Rattle.std.proofs.Common.{◌≡◌, ℕ, List, length, map, set, refl, rules, sym, ◌∙◌, ap, subst, arith}
use Rattle.std.specs.Prelude.{Option}
use Rattle.std.specs.List.{AllZip}
use Rattle.col_value.specs.declared.value.Value.{Value}
use Rattle.catalog_types.specs.declared.catalogue.Table as kept
use Rattle.db_model.specs.State.{pending_rows}
use Rattle.proj_store.specs.Loaded.{Loaded}
use Rattle.txn_core.specs.Marking.{without_rows}
use Rattle.table_store.specs.Changing.{Ready, CanApply, all_applied, all_coming, tables_applied}
use Rattle.table_store.specs.Committing.{ready_with}
use Rattle.table_store.specs.Held.{projections_of}
use Rattle.table_store.proofs.Loops.{Fronts, fronts_of}
use Rattle.table_store.proofs.Tables.{IsLast, of_table, shorter, last_below, last_fits, front_left, front_fits, front_used}
use Rattle.table_store.proofs.committing.apply_tables.Goals as goal

pub loop-parts-init : goal.loop-parts-init
loop-parts-init c = record {
  short = omega (arith, c.requires.long);
  room = fronts_of (AllZip CanApply) (ready_with c.args.changes.now c.args.entries.now c.args.ready.items) c.args.tables.now c.requires.room;
  rest = refl;
}

pub bounds-entries-i : goal.bounds-entries-i
bounds-entries-i c =
    let at : c.len-i.result ≡ length c.pop.new.self.items = search rules in
    omega (arith, at, shorter c.loop-parts.rest.items c.pop.new.self.items c.in-Some.parts (length c.args.entries.now) c.in-Some.ensures.items c.loop-parts.invariant.short)

pub bounds-tables-i : goal.bounds-tables-i
bounds-tables-i c =
    last_below c.loop-parts.changes c.args.entries.now c.loop-parts.tables c.loop-parts.rest.items c.pop.new.self.items c.in-Some.parts c.len-i.result c.index-entries-i.result
    (record { items = c.in-Some.ensures.items; at = search rules; entry = c.index-entries-i.is; short = c.loop-parts.invariant.short; room = c.loop-parts.invariant.room })

pub apply-requires-clause-room : goal.apply-requires-clause-room
apply-requires-clause-room c =
    let changes = c.loop-parts.changes in
    let entry = c.index-entries-i.result in
    let y = c.in-Some.parts in
    let xs = c.loop-parts.tables in
    let i = c.len-i.result in
    let old = c.index-tables-i.result in
    let named : c.as_slice.result.now ≡ entry.name = c.as_slice.ensures ∙ ap (λ (t : kept.Table). t.name) (sym c.index-entries-i.is) in
    let rows : c.take_rows-rows.result.items ≡ pending_rows entry.name changes = c.take_rows-rows.ensures.rows ∙ ap (λ (n : List ℕ). pending_rows n changes) named in
    let last : IsLast changes c.args.entries.now xs c.loop-parts.rest.items c.pop.new.self.items y i entry =
    record { items = c.in-Some.ensures.items; at = search rules; entry = c.index-entries-i.is; short = c.loop-parts.invariant.short; room = c.loop-parts.invariant.room } in
    subst (AllZip CanApply (all_coming y.taker c.take_rows-rows.result.items y.parts)) c.index-tables-i.is
    (subst (λ (rs : List (List Value)). AllZip CanApply (all_coming y.taker rs y.parts) old) (sym rows)
    (last_fits changes c.args.entries.now xs c.loop-parts.rest.items c.pop.new.self.items y i entry last old c.index-tables-i.is))

pub loop-parts-preserved : goal.loop-parts-preserved
loop-parts-preserved c =
    let changes = c.loop-parts.changes in
    let left = c.take_rows-rows.new.self in
    let ts = c.args.entries.now in
    let entry = c.index-entries-i.result in
    let y = c.in-Some.parts in
    let ys = c.pop.new.self.items in
    let zs = c.loop-parts.rest.items in
    let xs = c.loop-parts.tables in
    let i = c.len-i.result in
    let old = c.index-tables-i.result in
    let new = c.apply.new.self in
    let epoch = c.args.epoch in
    let whole = tables_applied epoch (ready_with c.args.changes.now ts c.args.ready.items) (map projections_of c.args.tables.now) in
    let named : c.as_slice.result.now ≡ entry.name = c.as_slice.ensures ∙ ap (λ (t : kept.Table). t.name) (sym c.index-entries-i.is) in
    let rows : c.take_rows-rows.result.items ≡ pending_rows entry.name changes = c.take_rows-rows.ensures.rows ∙ ap (λ (n : List ℕ). pending_rows n changes) named in
    let gone : left ≡ without_rows entry.name changes = c.take_rows-rows.ensures.left ∙ ap (λ (n : List ℕ). without_rows n changes) named in
    let last : IsLast changes ts xs zs ys y i entry =
    record { items = c.in-Some.ensures.items; at = search rules; entry = c.index-entries-i.is; short = c.loop-parts.invariant.short; room = c.loop-parts.invariant.room } in
    let same = front_left changes ts xs zs ys y i entry last left gone c.requires.apart in
    let one : projections_of new ≡ all_applied epoch (of_table changes entry y) (projections_of old) =
    c.apply.ensures ∙ ap (λ (ps : List Loaded). all_applied epoch (all_coming y.taker c.take_rows-rows.result.items y.parts) (projections_of ps)) (sym c.index-tables-i.is)
    ∙ ap (λ (rs : List (List Value)). all_applied epoch (all_coming y.taker rs y.parts) (projections_of old)) rows in
    let less = shorter zs ys y (length ts) c.in-Some.ensures.items c.loop-parts.invariant.short in
    record {
      short = omega (arith, less);
      room = subst (λ (oss : List (List (Option Ready))). Fronts (AllZip CanApply) oss (set xs i new)) same (front_fits changes ts xs zs ys y i entry last new);
      rest =
          subst (λ (oss : List (List (Option Ready))). tables_applied epoch oss (map projections_of (set xs i new)) ≡ whole) same
          (front_used changes ts xs zs ys y i entry last epoch old new whole c.index-tables-i.is one c.loop-parts.invariant.rest);
    }
