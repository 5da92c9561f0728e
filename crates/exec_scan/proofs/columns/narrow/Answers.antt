use Rattle.std.proofs.Common.{◌∙◌, refl, subst, sym, arith}
use Rattle.std.specs.Prelude.{Option}
use Rattle.common_laws.specs.Maps.{Contents}
use Rattle.col_disk.proofs.Moving.{moved_join, moved_none}
use Rattle.ros_container.specs.Encodings.{written_of}
use Rattle.ros_container.specs.Held.{BlamesContainer}
use Rattle.container_blocks.specs.Blocks.{rows_in}
use Rattle.exec_scan.specs.Opened.{HoldsAll}
use Rattle.exec_scan.proofs.Narrowing.{narrowed_more, narrowed_none}
use Rattle.exec_scan.proofs.columns.narrow.Goals as goal

pub loop-bound-init : goal.loop-bound-init
loop-bound-init g c = record {
  width = refl;
  long = c.requires.long;
  alive = refl;
  narrows = λ held m told rows holding. narrowed_none c.args.bounds.now c.args.places.now c.args.columns.now c.args.alive.now (rows_in c.args.k rows);
  steps = omega arith;
  kept = refl;
  moved = moved_none g.D.Disk c.args.disk.now;
}

pub returns-in-Err-clause-blamed : goal.returns-in-Err-clause-blamed
returns-in-Err-clause-blamed g c = λ held.
    subst (λ (h : Option Contents). BlamesContainer (written_of c.args.shape.now) c.args.entry.now h c.in-Err.fault) c.loop-bound.invariant.kept
    (c.in-Err.ensures.blamed (subst (λ (h : Option Contents). HoldsAll (written_of c.args.shape.now) c.args.entry.now h c.args.places.now c.args.indexes.now) (sym c.loop-bound.invariant.kept) held))

pub returns-in-Err-clause-moved : goal.returns-in-Err-clause-moved
returns-in-Err-clause-moved g c = moved_join g.D.Disk c.loop-bound.invariant.moved c.narrow_by.ensures.moved

pub loop-bound-preserved : goal.loop-bound-preserved
loop-bound-preserved g c =
    let now = c.loop-bound.invariant in
    let bound = c.bound-item.result in
    record {
      width = c.narrow_by.ensures.width ∙ now.width;
      long = c.in-Ok.ensures.long;
      alive = c.narrow_by.ensures.alive ∙ now.alive;
      narrows = λ held m told rows holding.
          narrowed_more c.args.bounds.now c.loop-bound.bound-index bound c.args.places.now c.args.columns.now c.loop-bound.columns c.narrow_by.new.columns c.args.alive.now c.loop-bound.alive c.narrow_by.new.alive (rows_in c.args.k rows)
          c.loop-bound-test.true c.bound-item.is (now.narrows held m told rows holding)
          (c.in-Ok.ensures.narrows (subst (λ (h : Option Contents). HoldsAll (written_of c.args.shape.now) c.args.entry.now h c.args.places.now c.args.indexes.now) (sym now.kept) held) m (now.kept ∙ told) rows holding);
      steps = omega (arith, c.in-Ok.ensures.steps, now.steps);
      kept = c.narrow_by.ensures.kept ∙ now.kept;
      moved = moved_join g.D.Disk now.moved c.narrow_by.ensures.moved;
    }
