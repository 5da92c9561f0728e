use Rattle.catalog_types.specs.Blank.{blank_container as blank}
use Rattle.std.proofs.Common.{◌≡◌, ◌≤◌, ◌<◌, ◌+◌, ◌*◌, List, get_or, length, rules, arith, ap, sym, subst}
use Rattle.std.specs.List.{All}
use Rattle.std.proofs.lemmas.List.{get_or_default}
use Rattle.std.proofs.lemmas.List.Elements.{All-nil}
use Rattle.col_disk.proofs.Moving.{moved_join, moved_none}
use Rattle.catalog_types.specs.declared.catalogue.Container.{Container}
use Rattle.catalog_types.specs.declared.catalogue.Projection.{Projection}
use Rattle.ros_container.specs.Encodings.{written_of}
use Rattle.ros_container.specs.Readable.{IsReadable}
use Rattle.container_writer.specs.Writing.{listed}
use Rattle.container_cut.specs.Blamed.{BlamesOne}
use Rattle.moveout_job.specs.OnDisk.{beside, IsKeptOrHasVector}
use Rattle.moveout_job.proofs.Renewed.{beside_within, later_data}
use Rattle.proj_store.specs.Sound.{HasVectorNumber, MarksItsRows}
use Rattle.purge_job.specs.Purging.{CanLoad, PurgesOne}
use Rattle.purge_job.proofs.Vectors.{vectors_more}
use Rattle.purge_job.proofs.Turns.{at_place, blamed_before, fewer_more, kept_at, loads_more, numbers_more, purges_all, purges_none, turn}
use Rattle.purge_job.proofs.each.purge_each.Goals as goal

pub loop-i-init : goal.loop-i-init
loop-i-init g c = record {
  purged = rw c.new-out.ensures.items (purges_none c.args.mark (written_of c.args.p.now.stored.entry) c.args.next (g.D.Disk.holds c.args.disk.now));
  loads = rw c.new-out.ensures.items (All-nil (CanLoad c.args.p.now.stored.entry.columns));
  vectors = λ m told. rw c.new-out.ensures.items (All-nil (IsKeptOrHasVector c.args.next m c.args.p.now.stored.entry.containers));
  fewer = omega (arith, ap length c.new-out.ensures.items);
  next = omega arith;
  upto = omega arith;
  moved = moved_none g.D.Disk c.args.disk.now;
}

pub vector-held-requires : goal.vector-held-requires
vector-held-requires g c =
    let shown : c.as_slice-containers.result.now ≡ c.args.p.now.stored.entry.containers = search rules in
    beside_within c.args.p.now.stored c.as_slice-containers.result.now c.loop-i.i shown c.entry-shape.ensures.sound c.loop-i-test.true

pub fresh_marks-fresh-requires : goal.fresh_marks-fresh-requires
fresh_marks-fresh-requires g c =
    let shown : c.as_slice-containers.result.now ≡ c.args.p.now.stored.entry.containers = search rules in
    beside_within c.args.p.now.stored c.as_slice-containers.result.now c.loop-i.i shown c.entry-shape.ensures.sound c.loop-i-test.true

pub purge_container-requires-clause-readable : goal.purge_container-requires-clause-readable
purge_container-requires-clause-readable g c =
    let ks = c.as_slice-containers.result.now in
    let i = c.loop-i.i in
    let k = get_or ks i blank in
    let p = c.args.p.now.stored in
    let shown : ks ≡ p.entry.containers = search rules in
    let files : All (IsReadable p.entry.columns) ks = subst (All (IsReadable p.entry.columns)) (sym shown) c.entry-shape.ensures.sound.loadable.files in
    subst (λ (e : Projection). IsReadable e.columns k) (sym c.entry-shape.ensures.entry) (at_place (IsReadable p.entry.columns) ks i k c.loop-i-test.true (get_or_default ks i blank k c.loop-i-test.true) files)

pub purge_container-requires-clause-vector : goal.purge_container-requires-clause-vector
purge_container-requires-clause-vector g c =
    let ks = c.as_slice-containers.result.now in
    let i = c.loop-i.i in
    let k = get_or ks i blank in
    let p = c.args.p.now.stored in
    let shown : ks ≡ p.entry.containers = search rules in
    let vectors : All HasVectorNumber ks = subst (All HasVectorNumber) (sym shown) c.entry-shape.ensures.sound.loadable.vectors in
    at_place HasVectorNumber ks i k c.loop-i-test.true (get_or_default ks i blank k c.loop-i-test.true) vectors

pub purge_container-requires-clause-held : goal.purge_container-requires-clause-held
purge_container-requires-clause-held g c =
    let p = c.args.p.now.stored in
    let shown : c.as_slice-containers.result.now ≡ p.entry.containers = search rules in
    let is : MarksItsRows (get_or c.as_slice-containers.result.now c.loop-i.i blank) (beside c.vector-held.result.now c.fresh_marks-fresh.result.now) =
    kept_at c.as_slice-containers.result.now p.beside c.loop-i.i (get_or c.as_slice-containers.result.now c.loop-i.i blank) c.vector-held.result.now c.fresh_marks-fresh.result.now (rw shown c.entry-shape.ensures.sound.kept) c.loop-i-test.true
    (get_or_default c.as_slice-containers.result.now c.loop-i.i blank (get_or c.as_slice-containers.result.now c.loop-i.i blank) c.loop-i-test.true) c.vector-held.ensures c.fresh_marks-fresh.ensures in
    is.held

pub purge_container-requires-clause-fresh : goal.purge_container-requires-clause-fresh
purge_container-requires-clause-fresh g c =
    let p = c.args.p.now.stored in
    let shown : c.as_slice-containers.result.now ≡ p.entry.containers = search rules in
    let is : MarksItsRows (get_or c.as_slice-containers.result.now c.loop-i.i blank) (beside c.vector-held.result.now c.fresh_marks-fresh.result.now) =
    kept_at c.as_slice-containers.result.now p.beside c.loop-i.i (get_or c.as_slice-containers.result.now c.loop-i.i blank) c.vector-held.result.now c.fresh_marks-fresh.result.now (rw shown c.entry-shape.ensures.sound.kept) c.loop-i-test.true
    (get_or_default c.as_slice-containers.result.now c.loop-i.i blank (get_or c.as_slice-containers.result.now c.loop-i.i blank) c.loop-i-test.true) c.vector-held.ensures c.fresh_marks-fresh.ensures in
    is.fresh

pub returns-in-Err-clause-blamed : goal.returns-in-Err-clause-blamed
returns-in-Err-clause-blamed g c =
    let p = c.args.p.now.stored in
    let ks = c.as_slice-containers.result.now in
    let i = c.loop-i.i in
    let k = get_or ks i blank in
    let shown : ks ≡ p.entry.containers = search rules in
    blamed_before g.D.Disk p.entry c.args.next i ks k c.in-Err.fault shown c.loop-i-test.true (get_or_default ks i blank k c.loop-i-test.true) c.entry-shape.ensures.sound.loadable c.loop-i.invariant.moved
    (subst (λ (e : Projection). BlamesOne e k (g.D.Disk.holds c.loop-i.disk) c.in-Err.fault) c.entry-shape.ensures.entry c.in-Err.ensures.blamed)

pub returns-in-Err-clause-moved : goal.returns-in-Err-clause-moved
returns-in-Err-clause-moved g c = moved_join g.D.Disk c.loop-i.invariant.moved (later_data g.D.Disk c.args.next c.loop-i.after c.loop-i.invariant.next c.purge_container.ensures.moved)

pub returns-in-Err-add-clause-moved : goal.returns-in-Err-add-clause-moved
returns-in-Err-add-clause-moved g c = moved_join g.D.Disk c.loop-i.invariant.moved (later_data g.D.Disk c.args.next c.loop-i.after c.loop-i.invariant.next c.purge_container.ensures.moved)

pub loop-i-preserved : goal.loop-i-preserved
loop-i-preserved g c =
    let p = c.args.p.now.stored in
    let mark = c.args.mark in
    let ks = c.as_slice-containers.result.now in
    let i = c.loop-i.i in
    let next = c.args.next in
    let after = c.loop-i.after in
    let end = c.in-Ok.done.next in
    let k = get_or ks i blank in
    let made = c.in-Ok.done.container in
    let inv = c.loop-i.invariant in
    let shown : ks ≡ p.entry.containers = search rules in
    let within = beside_within p ks i shown c.entry-shape.ensures.sound c.loop-i-test.true in
    let k_is : k ≡ get_or ks i k = get_or_default ks i blank k c.loop-i-test.true in
    let held = c.vector-held.result.now in
    let fresh = c.fresh_marks-fresh.result.now in
    let purged = subst (λ (e : Projection). PurgesOne mark (written_of e) after end k (beside held fresh) (listed made) (g.D.Disk.holds c.loop-i.disk) (g.D.Disk.holds c.purge_container.new.disk)) c.entry-shape.ensures.entry c.in-Ok.ensures.purged in
    let loads = subst (λ (e : Projection). All (CanLoad e.columns) (listed made)) c.entry-shape.ensures.entry c.in-Ok.ensures.loads in
    let most : end ≤ after + 2 * (length p.entry.columns + 1) + 1 = subst (λ (e : Projection). end ≤ after + 2 * (length e.columns + 1) + 1) c.entry-shape.ensures.entry c.in-Ok.ensures.upto in
    record {
      purged = turn g.D.Disk mark (written_of p.entry) next after end i ks p.entry.containers c.loop-i.out.items (listed made) c.add.new.containers.items p.beside k held fresh shown c.loop-i-test.true within k_is c.vector-held.ensures
          c.fresh_marks-fresh.ensures c.in-Ok-add.ensures inv.next c.in-Ok.ensures.next inv.moved c.purge_container.ensures.moved inv.purged purged;
      loads = loads_more p.entry.columns c.loop-i.out.items (listed made) c.add.new.containers.items c.in-Ok-add.ensures inv.loads loads;
      vectors = vectors_more g.D.Disk after end i ks p.entry.containers c.loop-i.out.items (listed made) c.add.new.containers.items k shown c.loop-i-test.true k_is c.in-Ok-add.ensures c.in-Ok.ensures.next c.purge_container.ensures.moved inv.vectors c.in-Ok.ensures.vector;
      fewer = fewer_more i c.loop-i.out.items c.add.new.containers.items made c.in-Ok-add.ensures inv.fewer;
      next = let one = c.in-Ok.ensures.next in let was = inv.next in omega (arith, one, was);
      upto = numbers_more i (2 * length p.entry.columns + 3) next after end inv.upto (omega (arith, most));
      moved = moved_join g.D.Disk inv.moved (later_data g.D.Disk next after inv.next c.purge_container.ensures.moved);
    }

pub returns-clause-purged : goal.returns-clause-purged
returns-clause-purged g c =
    let p = c.args.p.now.stored in
    let shown : c.as_slice-containers.result.now ≡ p.entry.containers = search rules in
    purges_all c.args.mark (written_of p.entry) c.args.next c.loop-i.after c.loop-i.i c.as_slice-containers.result.now c.loop-i.out.items p (g.D.Disk.holds c.args.disk.now) (g.D.Disk.holds c.loop-i.disk) shown c.entry-shape.ensures.sound
    c.loop-i-test.false c.loop-i.invariant.purged
