use Rattle.std.proofs.Common.{◌≡◌, ◌∙◌, length, refl, subst, sym, arith}
use Rattle.std.specs.Prelude.{Option}
use Rattle.common_laws.specs.Maps.{Contents}
use Rattle.col_disk.proofs.Moving.{moved_join, moved_none}
use Rattle.ros_container.specs.Encodings.{written_of}
use Rattle.ros_container.specs.Held.{BlamesContainer}
use Rattle.container_blocks.specs.Blocks.{rows_in}
use Rattle.exec_scan.specs.Opened.{HoldsAll}
use Rattle.exec_scan.specs.Reading.{AreFilled}
use Rattle.exec_scan.proofs.Filled.{filled_more, filled_none}
use Rattle.exec_scan.proofs.columns.fill_columns.Goals as goal

pub loop-column-init : goal.loop-column-init
loop-column-init g c = record {
  width = refl;
  long = c.requires.long;
  fills = λ held m told rows holding are. filled_none c.args.places.now c.args.columns.now (rows_in c.args.k rows) are;
  steps = omega arith;
  kept = refl;
  moved = moved_none g.D.Disk c.args.disk.now;
}

pub returns-in-Err-clause-blamed : goal.returns-in-Err-clause-blamed
returns-in-Err-clause-blamed g c = λ held.
    subst (λ (h : Option Contents). BlamesContainer (written_of c.args.shape.now) c.args.entry.now h c.in-Err.fault) c.loop-column.invariant.kept
    (c.in-Err.ensures.blamed (subst (λ (h : Option Contents). HoldsAll (written_of c.args.shape.now) c.args.entry.now h c.args.places.now c.args.indexes.now) (sym c.loop-column.invariant.kept) held))

pub returns-in-Err-clause-moved : goal.returns-in-Err-clause-moved
returns-in-Err-clause-moved g c = moved_join g.D.Disk c.loop-column.invariant.moved c.fill_column.ensures.moved

pub loop-column-preserved : goal.loop-column-preserved
loop-column-preserved g c =
    let now = c.loop-column.invariant in
    record {
      width = c.fill_column.ensures.width ∙ now.width;
      long = c.in-Ok.ensures.long;
      fills = λ held m told rows holding are.
          filled_more c.args.places.now c.loop-column.column c.loop-column.columns c.fill_column.new.columns (rows_in c.args.k rows)
          (c.in-Ok.ensures.fills (subst (λ (h : Option Contents). HoldsAll (written_of c.args.shape.now) c.args.entry.now h c.args.places.now c.args.indexes.now) (sym now.kept) held) m (now.kept ∙ told) rows holding)
          (now.fills held m told rows holding are);
      steps = omega (arith, c.in-Ok.ensures.steps, now.steps);
      kept = c.fill_column.ensures.kept ∙ now.kept;
      moved = moved_join g.D.Disk now.moved c.fill_column.ensures.moved;
    }

pub returns-clause-fills : goal.returns-clause-fills
returns-clause-fills g c = λ held m told rows holding are.
    let end : c.loop-column.column ≡ length c.args.places.now = omega (arith, c.loop-column-test.false, c.loop-column.auto.column-end) in
    subst (λ n. AreFilled c.args.places.now n c.loop-column.columns (rows_in c.args.k rows)) end (c.loop-column.invariant.fills held m told rows holding are)
