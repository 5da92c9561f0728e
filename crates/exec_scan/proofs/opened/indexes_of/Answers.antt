use Rattle.std.proofs.Common.{◌∙◌, [], List, get_or, refl, sym, subst}
use Rattle.common_laws.specs.Maps.{Contents}
use Rattle.std.specs.Prelude.{Option, None}
use Rattle.std.specs.List.{AllZip}
use Rattle.col_disk.proofs.Moving.{moved_join, moved_none}
use Rattle.ros_container.specs.Encodings.{written_of}
use Rattle.pos_index.specs.declared.index.PosIndex.{PosIndex}
use Rattle.exec_scan.specs.Opened.{IsNeeded, HoldsNeeded}
use Rattle.exec_scan.proofs.Indexed.{zip_more}
use Rattle.exec_scan.proofs.opened.indexes_of.Goals as goal

pub loop-place-init : goal.loop-place-init
loop-place-init g c = record {
  needed = subst (λ (xs : List (Option PosIndex)). AllZip (IsNeeded c.args.entry.now.rows) [] xs) (sym c.new-out.ensures.items) tt;
  held = subst (λ (xs : List (Option PosIndex)). AllZip (HoldsNeeded (written_of c.args.shape.now) c.args.entry.now (g.D.Disk.holds c.args.disk.now)) [] xs) (sym c.new-out.ensures.items) tt;
  kept = refl;
  moved = moved_none g.D.Disk c.args.disk.now;
}

pub returns-in-Err-clause-moved : goal.returns-in-Err-clause-moved
returns-in-Err-clause-moved g c = moved_join g.D.Disk c.loop-place.invariant.moved c.index_at.ensures.moved

pub returns-in-Err-push-clause-moved : goal.returns-in-Err-push-clause-moved
returns-in-Err-push-clause-moved g c = moved_join g.D.Disk c.loop-place.invariant.moved c.index_at.ensures.moved

pub loop-place-preserved : goal.loop-place-preserved
loop-place-preserved g c = record {
  needed = zip_more (IsNeeded c.args.entry.now.rows) c.args.places.now c.loop-place.out.items c.push.new.self.items c.loop-place.place-index None c.in-Ok.at c.loop-place-test.true c.in-Ok-push.ensures.items c.loop-place.invariant.needed c.in-Ok.ensures.needed;
  held = zip_more (HoldsNeeded (written_of c.args.shape.now) c.args.entry.now (g.D.Disk.holds c.args.disk.now)) c.args.places.now c.loop-place.out.items c.push.new.self.items c.loop-place.place-index None c.in-Ok.at c.loop-place-test.true c.in-Ok-push.ensures.items c.loop-place.invariant.held
      (subst (λ (h : Option Contents). HoldsNeeded (written_of c.args.shape.now) c.args.entry.now h (get_or c.args.places.now c.loop-place.place-index None) c.in-Ok.at) c.loop-place.invariant.kept c.in-Ok.ensures.held);
  kept = c.index_at.ensures.kept ∙ c.loop-place.invariant.kept;
  moved = moved_join g.D.Disk c.loop-place.invariant.moved c.index_at.ensures.moved;
}
