use Rattle.std.proofs.Common.{◌≤◌, ◌<◌, ◌∙◌, refl, rules}
use Rattle.col_disk.proofs.Moving.{moved_join, moved_none}
use Rattle.del_vector.specs.Marks.{epoch_at}
use Rattle.pos_index.specs.Index.{blocks}
use Rattle.audit_rows.proofs.BlocksSearched.{blocks_good, block_good, block_bad, blocks_done}
use Rattle.audit_rows.proofs.Faults.{blames_same}
use Rattle.audit_rows.proofs.Indexes.{of_same}
use Rattle.audit_rows.proofs.searching.bad_in_blocks.Goals as goal

pub loop-k-init : goal.loop-k-init
loop-k-init g c = record {
  good = λ of. blocks_good (g.D.Disk.holds c.args.disk.now) c.args.epoch c.args.mark c.args.table.now c.args.shape.now c.args.container.now (epoch_at c.args.opened.now.vector.marks);
  kept = refl;
  moved = moved_none g.D.Disk c.args.disk.now;
}

pub loop-k-preserved : goal.loop-k-preserved
loop-k-preserved g c =
    let now = c.loop-k.invariant in
    let lt : c.loop-k.k < blocks c.args.container.now.rows = search rules in
    record {
      good = λ of.
          block_good (g.D.Disk.holds c.loop-k.disk) (g.D.Disk.holds c.args.disk.now) c.args.epoch c.args.mark c.args.table.now c.args.shape.now c.args.container.now (epoch_at c.args.opened.now.vector.marks) c.loop-k.k lt now.kept (now.good of) c.in-Ok-None.field-0 c.in-Ok-None.field-0-is
          (c.in-Ok-None.ensures.found (of_same (g.D.Disk.holds c.loop-k.disk) (g.D.Disk.holds c.args.disk.now) c.args.shape.now c.args.container.now c.args.columns.now c.args.opened.now now.kept of));
      kept = c.bad_in_loaded.ensures.kept ∙ now.kept;
      moved = moved_join g.D.Disk now.moved c.bad_in_loaded.ensures.moved;
    }

pub returns-in-Ok-Some-clause-found : goal.returns-in-Ok-Some-clause-found
returns-in-Ok-Some-clause-found g c = λ of.
    let now = c.loop-k.invariant in
    let lt : c.loop-k.k < blocks c.args.container.now.rows = search rules in
    block_bad (g.D.Disk.holds c.loop-k.disk) (g.D.Disk.holds c.args.disk.now) c.args.epoch c.args.mark c.args.table.now c.args.shape.now c.args.container.now (epoch_at c.args.opened.now.vector.marks) c.loop-k.k c.in-Ok-Some.pos lt now.kept (now.good of) c.in-Ok-Some.field-0 c.in-Ok-Some.field-0-is
    (c.in-Ok-Some.ensures.found (of_same (g.D.Disk.holds c.loop-k.disk) (g.D.Disk.holds c.args.disk.now) c.args.shape.now c.args.container.now c.args.columns.now c.args.opened.now now.kept of))

pub returns-in-Ok-Some-clause-moved : goal.returns-in-Ok-Some-clause-moved
returns-in-Ok-Some-clause-moved g c = moved_join g.D.Disk c.loop-k.invariant.moved c.bad_in_loaded.ensures.moved

pub returns-in-Err-clause-moved : goal.returns-in-Err-clause-moved
returns-in-Err-clause-moved g c = moved_join g.D.Disk c.loop-k.invariant.moved c.bad_in_loaded.ensures.moved

pub returns-in-Err-clause-blamed : goal.returns-in-Err-clause-blamed
returns-in-Err-clause-blamed g c = λ of.
    let now = c.loop-k.invariant in
    blames_same c.args.shape.now c.args.container.now (g.D.Disk.holds c.loop-k.disk) (g.D.Disk.holds c.args.disk.now) c.in-Err.fault now.kept
    (c.in-Err.ensures.blamed (of_same (g.D.Disk.holds c.loop-k.disk) (g.D.Disk.holds c.args.disk.now) c.args.shape.now c.args.container.now c.args.columns.now c.args.opened.now now.kept of))

pub returns-clause-found : goal.returns-clause-found
returns-clause-found g c = λ of.
    let past : blocks c.args.container.now.rows ≤ c.loop-k.k = search rules in
    blocks_done (g.D.Disk.holds c.args.disk.now) c.args.epoch c.args.mark c.args.table.now c.args.shape.now c.args.container.now (epoch_at c.args.opened.now.vector.marks) c.loop-k.k past (c.loop-k.invariant.good of)
