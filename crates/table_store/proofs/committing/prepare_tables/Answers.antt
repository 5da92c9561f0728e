use Rattle.std.proofs.Common.{◌≡◌, ℕ, ◌<◌, ◌+◌, ◌++◌, List, [], ◌∷◌, length, map, set, take, get_or, refl, sym, ◌∙◌, ap, subst, arith}
use Rattle.std.specs.Prelude.{Option}
use Rattle.std.specs.List.{All, AllZip}
use Rattle.std.proofs.lemmas.List.{length-set, length-append}
use Rattle.col_disk.proofs.Moving.{moved_join, moved_none}
use Rattle.col_value.specs.declared.value.Value.{Value}
use Rattle.col_value.specs.declared.row.Asked.{Asked}
use Rattle.db_model.specs.State.{pending_rows, pending_deletes}
use Rattle.stored_rows.specs.Stored.{Projected}
use Rattle.proj_store.specs.Loaded.{Loaded}
use Rattle.table_store.specs.Held.{projections_of}
use Rattle.table_store.specs.Changing.{Ready, CanApply, IsReady, all_coming}
use Rattle.table_store.specs.Committing.{ready_with, AreReady}
use Rattle.table_store.proofs.Loops.{fits_more, map_kept}
use Rattle.table_store.specs.declared.parts.ReadyTable.{ReadyTable}
use Rattle.table_store.proofs.Readied.{ready_more}
use Rattle.table_store.proofs.Tables.{of_table, ready_last}
use Rattle.table_store.specs.Faults.{IsReadable}
use Rattle.table_store.proofs.Blames.{parts_before}
use Rattle.table_store.proofs.Unblamed.{one_of}
use Rattle.table_store.proofs.committing.prepare_tables.Goals as goal

pub loop-i-init : goal.loop-i-init
loop-i-init g c = record {
  long = refl;
  prepared = λ m told. subst (λ (os : List (List (Option Ready))). AreReady m c.args.changes.now [] [] os) (sym (ap (ready_with c.args.changes.now c.args.entries.now) c.new-ready.ensures.items)) tt;
  made = ap (λ (rs : List ReadyTable). length rs) c.new-ready.ensures.items;
  ready = subst (λ (os : List (List (Option Ready))). AllZip (AllZip CanApply) os []) (sym (ap (ready_with c.args.changes.now c.args.entries.now) c.new-ready.ensures.items)) tt;
  stored = refl;
  kept = refl;
  moved = moved_none g.D.Disk c.args.disk.now;
}

pub returns-in-Err-clause-stored : goal.returns-in-Err-clause-stored
returns-in-Err-clause-stored g c =
    let lt : c.loop-i.i < length c.loop-i.tables = omega (arith, c.loop-i-test.true, c.loop-i.invariant.long, c.requires) in
    map_kept projections_of c.loop-i.tables c.loop-i.i c.prepare.new.self c.index-tables-i.result lt c.index-tables-i.is (c.prepare.ensures.stored ∙ ap projections_of (sym c.index-tables-i.is)) ∙ c.loop-i.invariant.stored

pub returns-in-Err-clause-moved : goal.returns-in-Err-clause-moved
returns-in-Err-clause-moved g c = moved_join g.D.Disk c.loop-i.invariant.moved c.prepare.ensures.moved

pub returns-in-Err-push-clause-stored : goal.returns-in-Err-push-clause-stored
returns-in-Err-push-clause-stored g c =
    let lt : c.loop-i.i < length c.loop-i.tables = omega (arith, c.loop-i-test.true, c.loop-i.invariant.long, c.requires) in
    map_kept projections_of c.loop-i.tables c.loop-i.i c.prepare.new.self c.index-tables-i.result lt c.index-tables-i.is (c.prepare.ensures.stored ∙ ap projections_of (sym c.index-tables-i.is)) ∙ c.loop-i.invariant.stored

pub returns-in-Err-push-clause-moved : goal.returns-in-Err-push-clause-moved
returns-in-Err-push-clause-moved g c = moved_join g.D.Disk c.loop-i.invariant.moved c.prepare.ensures.moved

pub loop-i-preserved : goal.loop-i-preserved
loop-i-preserved g c =
    let xs = c.loop-i.tables in
    let i = c.loop-i.i in
    let lt : i < length xs = omega (arith, c.loop-i-test.true, c.loop-i.invariant.long, c.requires) in
    let old = c.index-tables-i.result in
    let new = c.prepare.new.self in
    let entry = c.index-entries-i.result in
    let same = map_kept projections_of xs i new old lt c.index-tables-i.is (c.prepare.ensures.stored ∙ ap projections_of (sym c.index-tables-i.is)) in
    let changes = c.args.changes.now in
    let ts = c.args.entries.now in
    let rows : c.pending.result.0.now ≡ pending_rows entry.name changes = c.pending.ensures.rows in
    let deletes : c.pending.result.1.now ≡ pending_deletes entry.name changes = c.pending.ensures.deletes in
    let was = ready_with changes ts c.loop-i.ready.items in
    let one = of_table changes entry c.in-Ok.parts in
    let at : entry ≡ get_or ts (length c.loop-i.ready.items) entry = c.index-entries-i.is ∙ ap (λ (n : ℕ). get_or ts n entry) (sym c.loop-i.invariant.made) in
    let pushed = ap (ready_with changes ts) c.in-Ok-push.ensures.items ∙ ready_last changes ts c.loop-i.ready.items c.in-Ok.parts entry at (omega (arith, c.loop-i-test.true, c.loop-i.invariant.made)) in
    let can : AllZip CanApply one new = subst (λ (rs : List (List Value)). AllZip CanApply (all_coming c.in-Ok.parts.taker rs c.in-Ok.parts.parts) new) rows c.in-Ok.ensures.ready in
    record {
      long = length-set xs i new ∙ c.loop-i.invariant.long;
      prepared = λ m told.
          let is_one : AllZip (IsReady m (pending_rows entry.name changes) (pending_deletes entry.name changes)) (projections_of old) one =
          subst (λ (ps : List Loaded). AllZip (IsReady m (pending_rows entry.name changes) (pending_deletes entry.name changes)) (projections_of ps) one) (sym c.index-tables-i.is)
          (subst (λ (ds : List Asked). AllZip (IsReady m (pending_rows entry.name changes) ds) (projections_of (get_or xs i old)) one) deletes
          (subst (λ (rs : List (List Value)). AllZip (IsReady m rs c.pending.result.1.now) (projections_of (get_or xs i old)) (all_coming c.in-Ok.parts.taker rs c.in-Ok.parts.parts)) rows
          (c.in-Ok.ensures.prepared m (c.loop-i.invariant.kept ∙ told)))) in
          subst (λ (os : List (List (Option Ready))). AreReady m changes (take (i + 1) ts) (take (i + 1) (map projections_of c.args.tables.now)) os) (sym pushed)
          (subst (λ (ps : List (List Projected)). AreReady m changes (take (i + 1) ts) (take (i + 1) ps) (was ++ one ∷ [])) c.loop-i.invariant.stored
          (ready_more m changes projections_of ts xs i entry old was one c.loop-i-test.true lt c.index-entries-i.is c.index-tables-i.is
          (subst (λ (ps : List (List Projected)). AreReady m changes (take i ts) (take i ps) was) (sym c.loop-i.invariant.stored) (c.loop-i.invariant.prepared m told)) is_one));
      made = ap (λ (rs : List ReadyTable). length rs) c.in-Ok-push.ensures.items ∙ omega (arith, c.loop-i.invariant.made, length-append c.loop-i.ready.items (c.in-Ok.parts ∷ []));
      ready = subst (λ (os : List (List (Option Ready))). AllZip (AllZip CanApply) os (take (i + 1) (set xs i new))) (sym pushed) (fits_more (AllZip CanApply) xs i new was one lt c.loop-i.invariant.ready can);
      stored = same ∙ c.loop-i.invariant.stored;
      kept = c.prepare.ensures.kept ∙ c.loop-i.invariant.kept;
      moved = moved_join g.D.Disk c.loop-i.invariant.moved c.prepare.ensures.moved;
    }

pub returns-in-Err-clause-unblamed : goal.returns-in-Err-clause-unblamed
returns-in-Err-clause-unblamed g c = λ m told all.
    let lt : c.loop-i.i < length c.loop-i.tables = omega (arith, c.loop-i-test.true, c.loop-i.invariant.long, c.requires) in
    c.in-Err.ensures.unblamed m (c.loop-i.invariant.kept ∙ told)
    (subst (λ (ps : List Loaded). All (IsReadable m) (projections_of ps)) c.index-tables-i.is
    (one_of projections_of (All (IsReadable m)) c.args.tables.now c.loop-i.tables c.loop-i.i c.index-tables-i.result c.loop-i.invariant.stored lt c.index-tables-i.is all))

pub returns-in-Err-clause-blamed : goal.returns-in-Err-clause-blamed
returns-in-Err-clause-blamed g c =
    let lt : c.loop-i.i < length c.loop-i.tables = omega (arith, c.loop-i-test.true, c.loop-i.invariant.long, c.requires) in
    parts_before c.args.tables.now c.loop-i.tables c.loop-i.i c.index-tables-i.result (g.D.Disk.holds c.loop-i.disk) (g.D.Disk.holds c.args.disk.now) c.in-Err.fault c.loop-i.invariant.stored lt c.loop-i.invariant.kept c.in-Err.ensures.blamed
