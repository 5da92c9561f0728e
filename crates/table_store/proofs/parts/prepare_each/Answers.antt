use Rattle.std.proofs.Common.{◌<◌, ◌+◌, ◌++◌, Bool, List, [], ◌∷◌, length, set, take, refl, sym, ◌∙◌, ap, subst, arith}
use Rattle.std.specs.Prelude.{Option}
use Rattle.std.specs.List.{AllZip}
use Rattle.std.proofs.lemmas.List.{length-set, length-append}
use Rattle.col_disk.proofs.Moving.{moved_join, moved_none}
use Rattle.stored_rows.specs.Stored.{Projected}
use Rattle.proj_store.specs.Loaded.{Loaded}
use Rattle.table_store.specs.Held.{projections_of}
use Rattle.table_store.specs.Changing.{Ready, CanApply, IsReady, all_coming, is_at, with_coming, AreWhole}
use Rattle.table_store.proofs.Loops.{made_more, fits_more, map_kept}
use Rattle.table_store.proofs.Taking.{coming_none, coming_push, takes_whole}
use Rattle.table_store.specs.Faults.{IsReadable}
use Rattle.table_store.proofs.Blames.{part_before}
use Rattle.table_store.proofs.Unblamed.{one_of}
use Rattle.table_store.proofs.parts.prepare_each.Goals as goal

pub loop-i-init : goal.loop-i-init
loop-i-init g c = record {
  long = refl;
  prepared = λ m told. subst (λ (os : List (Option Ready)). AllZip (IsReady m c.args.rows.now c.args.deletes.now) [] os) (sym (coming_none c.args.taker c.args.rows.now c.new-ready.result.items c.new-ready.ensures.items)) tt;
  made = ap (λ (os : List (Option Ready)). length os) c.new-ready.ensures.items;
  ready = subst (λ (os : List (Option Ready)). AllZip CanApply os []) (sym (coming_none c.args.taker c.args.rows.now c.new-ready.result.items c.new-ready.ensures.items)) tt;
  stored = refl;
  kept = refl;
  moved = moved_none g.D.Disk c.args.disk.now;
}

pub returns-in-Err-clause-stored : goal.returns-in-Err-clause-stored
returns-in-Err-clause-stored g c =
    let lt : c.loop-i.i < length c.loop-i.stores = omega (arith, c.loop-i-test.true, c.loop-i.invariant.long) in
    map_kept (λ (p : Loaded). p.stored) c.loop-i.stores c.loop-i.i c.prepare_part.new.store c.index-stores-i.result lt c.index-stores-i.is (c.prepare_part.ensures.stored ∙ ap (λ (p : Loaded). p.stored) (sym c.index-stores-i.is)) ∙ c.loop-i.invariant.stored

pub returns-in-Err-clause-moved : goal.returns-in-Err-clause-moved
returns-in-Err-clause-moved g c = moved_join g.D.Disk c.loop-i.invariant.moved c.prepare_part.ensures.moved

pub returns-in-Err-push-clause-stored : goal.returns-in-Err-push-clause-stored
returns-in-Err-push-clause-stored g c =
    let lt : c.loop-i.i < length c.loop-i.stores = omega (arith, c.loop-i-test.true, c.loop-i.invariant.long) in
    map_kept (λ (p : Loaded). p.stored) c.loop-i.stores c.loop-i.i c.prepare_part.new.store c.index-stores-i.result lt c.index-stores-i.is (c.prepare_part.ensures.stored ∙ ap (λ (p : Loaded). p.stored) (sym c.index-stores-i.is)) ∙ c.loop-i.invariant.stored

pub returns-in-Err-push-clause-moved : goal.returns-in-Err-push-clause-moved
returns-in-Err-push-clause-moved g c = moved_join g.D.Disk c.loop-i.invariant.moved c.prepare_part.ensures.moved

pub prepare_part-requires-clause-whole : goal.prepare_part-requires-clause-whole
prepare_part-requires-clause-whole g c = λ takes.
    let lt : c.loop-i.i < length c.loop-i.stores = omega (arith, c.loop-i-test.true, c.loop-i.invariant.long) in
    subst (λ (p : Loaded). AreWhole c.args.rows.now p.stored) c.index-stores-i.is
    (takes_whole c.args.rows.now c.args.stores.now c.loop-i.stores c.args.taker c.loop-i.i c.index-stores-i.result c.loop-i.invariant.stored c.requires.whole lt c.index-stores-i.is (sym c.is_at-takes.ensures ∙ takes))

pub loop-i-preserved : goal.loop-i-preserved
loop-i-preserved g c =
    let rows = c.args.rows.now in
    let xs = c.loop-i.stores in
    let i = c.loop-i.i in
    let lt : i < length xs = omega (arith, c.loop-i-test.true, c.loop-i.invariant.long) in
    let old = c.index-stores-i.result in
    let new = c.prepare_part.new.store in
    let was = all_coming c.args.taker rows c.loop-i.ready.items in
    let part = with_coming (is_at c.args.taker i) rows c.in-Ok.part in
    let kept = map_kept (λ (p : Loaded). p.stored) xs i new old lt c.index-stores-i.is (c.prepare_part.ensures.stored ∙ ap (λ (p : Loaded). p.stored) (sym c.index-stores-i.is)) in
    let pushed = ap (all_coming c.args.taker rows) c.in-Ok-push.ensures.items ∙ coming_push c.args.taker rows c.loop-i.ready.items c.in-Ok.part i c.loop-i.invariant.made in
    let can : CanApply part new = subst (λ (b : Bool). CanApply (with_coming b rows c.in-Ok.part) new) c.is_at-takes.ensures c.in-Ok.ensures.ready in
    record {
      long = length-set xs i new ∙ c.loop-i.invariant.long;
      prepared = λ m told.
          let one : IsReady m rows c.args.deletes.now old.stored part =
          subst (λ (b : Bool). IsReady m rows c.args.deletes.now old.stored (with_coming b rows c.in-Ok.part)) c.is_at-takes.ensures
          (subst (λ (p : Loaded). IsReady m rows c.args.deletes.now p.stored (with_coming c.is_at-takes.result rows c.in-Ok.part)) (sym c.index-stores-i.is) (c.in-Ok.ensures.prepared m (c.loop-i.invariant.kept ∙ told))) in
          subst (λ (os : List (Option Ready)). AllZip (IsReady m rows c.args.deletes.now) (take (i + 1) (projections_of c.args.stores.now)) os) (sym pushed)
          (subst (λ (ps : List Projected). AllZip (IsReady m rows c.args.deletes.now) (take (i + 1) ps) (was ++ part ∷ [])) c.loop-i.invariant.stored
          (made_more (λ (p : Loaded). p.stored) (IsReady m rows c.args.deletes.now) xs i old was part lt c.index-stores-i.is
          (subst (λ (ps : List Projected). AllZip (IsReady m rows c.args.deletes.now) (take i ps) was) (sym c.loop-i.invariant.stored) (c.loop-i.invariant.prepared m told)) one));
      made = ap (λ (os : List (Option Ready)). length os) c.in-Ok-push.ensures.items ∙ omega (arith, c.loop-i.invariant.made, length-append c.loop-i.ready.items (c.in-Ok.part ∷ []));
      ready = subst (λ (os : List (Option Ready)). AllZip CanApply os (take (i + 1) (set xs i new))) (sym pushed) (fits_more CanApply xs i new was part lt c.loop-i.invariant.ready can);
      stored = kept ∙ c.loop-i.invariant.stored;
      kept = c.prepare_part.ensures.kept ∙ c.loop-i.invariant.kept;
      moved = moved_join g.D.Disk c.loop-i.invariant.moved c.prepare_part.ensures.moved;
    }

pub returns-in-Err-clause-unblamed : goal.returns-in-Err-clause-unblamed
returns-in-Err-clause-unblamed g c = λ m told all.
    let lt : c.loop-i.i < length c.loop-i.stores = omega (arith, c.loop-i-test.true, c.loop-i.invariant.long) in
    c.in-Err.ensures.unblamed m (c.loop-i.invariant.kept ∙ told)
    (subst (λ (p : Loaded). IsReadable m p.stored) c.index-stores-i.is
    (one_of (λ (p : Loaded). p.stored) (IsReadable m) c.args.stores.now c.loop-i.stores c.loop-i.i c.index-stores-i.result c.loop-i.invariant.stored lt c.index-stores-i.is all))

pub returns-in-Err-clause-blamed : goal.returns-in-Err-clause-blamed
returns-in-Err-clause-blamed g c =
    let lt : c.loop-i.i < length c.loop-i.stores = omega (arith, c.loop-i-test.true, c.loop-i.invariant.long) in
    part_before c.args.stores.now c.loop-i.stores c.loop-i.i c.index-stores-i.result (g.D.Disk.holds c.loop-i.disk) (g.D.Disk.holds c.args.disk.now) c.in-Err.fault c.loop-i.invariant.stored lt c.loop-i.invariant.kept c.in-Err.ensures.blamed
