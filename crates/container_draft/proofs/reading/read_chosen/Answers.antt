use Rattle.std.proofs.Common.{◌≡◌, ◌<◌, Bool, length, ◌∙◌, rules, refl, subst, sym}
use Rattle.std.specs.List.{All}
use Rattle.col_disk.proofs.Moving.{moved_join, moved_none}
use Rattle.catalog_types.specs.declared.catalogue.Projection.{Projection}
use Rattle.ros_container.specs.Encodings.{written_of}
use Rattle.ros_container.specs.Held.{BlamesContainer}
use Rattle.ros_container.specs.Readable.{IsReadable}
use Rattle.container_draft.specs.Reading.{JoinsIf}
use Rattle.proj_store.proofs.SavedRows.{item, item_is, blames_here, files_at}
use Rattle.container_draft.proofs.Chosen.{hold_none, hold_more, hold_all}
use Rattle.container_draft.proofs.OnColumns.{none_wide}
use Rattle.container_draft.proofs.reading.read_chosen.Goals as goal

pub loop-i-init : goal.loop-i-init
loop-i-init g c = record {
  read = λ m told. hold_none m (written_of c.args.p.now.stored.entry) c.args.via.now c.args.inputs.now c.args.p.now.stored.entry.containers c.of-rows.result (c.of-rows.ensures ∙ c.new.ensures.items);
  wide = none_wide (length c.args.via.now) c.of-rows.result (c.of-rows.ensures ∙ c.new.ensures.items);
  kept = refl;
  moved = moved_none g.D.Disk c.args.disk.now;
}

pub read_if-requires : goal.read_if-requires
read_if-requires g c =
    let p = c.args.p.now.stored in
    let ks = c.as_slice-containers.result.now in
    let i = c.loop-i.i in
    let shown : ks ≡ p.entry.containers = search rules in
    record {
      readable = subst (λ (e : Projection). IsReadable e.columns (item ks i)) (sym c.entry-shape.ensures.entry)
          (files_at p.entry.columns ks p.entry.containers i (item ks i) shown c.entry-shape.ensures.sound.loadable.files c.loop-i-test.true (item_is ks i c.loop-i-test.true));
      columns = subst (λ (e : Projection). All (λ j. j < length e.columns) c.args.via.now) (sym c.entry-shape.ensures.entry) c.requires;
    }

pub loop-i-preserved : goal.loop-i-preserved
loop-i-preserved g c =
    let p = c.args.p.now.stored in
    let ks = c.as_slice-containers.result.now in
    let i = c.loop-i.i in
    let shown : ks ≡ p.entry.containers = search rules in
    record {
      read = λ m told. hold_more m (written_of p.entry) c.args.via.now i c.args.inputs.now ks p.entry.containers (item ks i) c.loop-i.rows c.read_if.new.rows shown c.loop-i-test.true (item_is ks i c.loop-i-test.true)
          (c.loop-i.invariant.read m told)
          (subst (λ (f : Bool). JoinsIf f m (written_of p.entry) c.args.via.now (item ks i) c.loop-i.rows c.read_if.new.rows) c.is_chosen-wanted.ensures
          (subst (λ (e : Projection). JoinsIf c.is_chosen-wanted.result m (written_of e) c.args.via.now (item ks i) c.loop-i.rows c.read_if.new.rows) c.entry-shape.ensures.entry (c.in-Ok.ensures.read m (c.loop-i.invariant.kept ∙ told))));
      wide = c.in-Ok.ensures.wide c.loop-i.invariant.wide;
      kept = c.read_if.ensures.kept ∙ c.loop-i.invariant.kept;
      moved = moved_join g.D.Disk c.loop-i.invariant.moved c.read_if.ensures.moved;
    }

pub returns-clause-read : goal.returns-clause-read
returns-clause-read g c = λ m told.
    let p = c.args.p.now.stored in
    let ks = c.as_slice-containers.result.now in
    let shown : ks ≡ p.entry.containers = search rules in
    hold_all m (written_of p.entry) c.args.via.now c.loop-i.i c.args.inputs.now ks p.entry.containers c.loop-i.rows shown c.loop-i-test.false (c.loop-i.invariant.read m told)

pub returns-in-Err-clause-moved : goal.returns-in-Err-clause-moved
returns-in-Err-clause-moved g c = moved_join g.D.Disk c.loop-i.invariant.moved c.read_if.ensures.moved

pub returns-in-Err-clause-blamed : goal.returns-in-Err-clause-blamed
returns-in-Err-clause-blamed g c =
    let p = c.args.p.now.stored in
    let ks = c.as_slice-containers.result.now in
    let i = c.loop-i.i in
    let shown : ks ≡ p.entry.containers = search rules in
    blames_here p.entry ks i (item ks i) _ _ c.in-Err.fault shown c.loop-i-test.true (item_is ks i c.loop-i-test.true) c.loop-i.invariant.kept
    (subst (λ (e : Projection). BlamesContainer (written_of e) (item ks i) (g.D.Disk.holds c.loop-i.disk) c.in-Err.fault) c.entry-shape.ensures.entry c.in-Err.ensures.blamed)
