use Rattle.std.proofs.Common.{◌∙◌, ◌∷◌, [], List, length, refl, sym, ap, subst, arith}
use Rattle.std.specs.List.{All}
use Rattle.std.proofs.lemmas.List.{length-append}
use Rattle.std.proofs.lemmas.List.Elements.{All-nil, All-push}
use Rattle.col_disk.proofs.Moving.{moved_join, moved_none}
use Rattle.ros_container.specs.Encodings.{written_of}
use Rattle.container_blocks.specs.Blocks.{IsIndexOf}
use Rattle.pos_index.specs.declared.index.PosIndex.{PosIndex}
use Rattle.audit_rows.proofs.Indexes.{indexes_more, indexes_none}
use Rattle.audit_rows.proofs.blocks.indexes_of.Goals as goal

pub loop-i-init : goal.loop-i-init
loop-i-init g c = record {
  long = ap length c.new-out.ensures.items;
  fit = subst (All (IsIndexOf c.args.container.now.rows)) (sym c.new-out.ensures.items) (All-nil (IsIndexOf c.args.container.now.rows));
  held = indexes_none (written_of c.args.shape.now) c.args.container.now c.args.columns.now (g.D.Disk.holds c.args.disk.now) c.new-out.result.items c.new-out.ensures.items;
  kept = refl;
  moved = moved_none g.D.Disk c.args.disk.now;
}

pub returns-in-Err-clause-moved : goal.returns-in-Err-clause-moved
returns-in-Err-clause-moved g c = moved_join g.D.Disk c.loop-i.invariant.moved c.index.ensures.moved

pub returns-in-Err-push-clause-moved : goal.returns-in-Err-push-clause-moved
returns-in-Err-push-clause-moved g c = moved_join g.D.Disk c.loop-i.invariant.moved c.index.ensures.moved

pub loop-i-preserved : goal.loop-i-preserved
loop-i-preserved g c =
    let now = c.loop-i.invariant in
    let is = c.in-Ok-push.ensures.items in
    record {
      long = omega (arith, ap length is, length-append c.loop-i.out.items (c.in-Ok.at ∷ []), now.long);
      fit = subst (All (IsIndexOf c.args.container.now.rows)) (sym {A = List PosIndex} is) (All-push (IsIndexOf c.args.container.now.rows) c.loop-i.out.items c.in-Ok.at now.fit c.in-Ok.ensures.index);
      held = indexes_more (written_of c.args.shape.now) c.args.container.now c.args.columns.now (g.D.Disk.holds c.loop-i.disk) (g.D.Disk.holds c.args.disk.now) c.loop-i.i c.loop-i.out.items c.push.new.self.items c.in-Ok.at now.kept now.long is now.held c.in-Ok.ensures.found;
      kept = c.index.ensures.kept ∙ now.kept;
      moved = moved_join g.D.Disk now.moved c.index.ensures.moved;
    }
