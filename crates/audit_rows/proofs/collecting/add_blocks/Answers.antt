use Rattle.std.proofs.Common.{◌≤◌, ◌<◌, ◌∙◌, refl, rules}
use Rattle.col_disk.proofs.Moving.{moved_join, moved_none}
use Rattle.del_vector.specs.Marks.{epoch_at}
use Rattle.pos_index.specs.Index.{blocks}
use Rattle.ros_container.specs.Encodings.{written_of}
use Rattle.ros_container.proofs.Long.{container_long}
use Rattle.audit_rows.proofs.Faults.{blames_same}
use Rattle.audit_rows.proofs.Indexes.{of_same}
use Rattle.audit_rows.proofs.Joined.{blocks_none, block_next, blocks_end}
use Rattle.audit_rows.proofs.collecting.add_blocks.Goals as goal

pub loop-k-init : goal.loop-k-init
loop-k-init g c = record {
  found = λ of m told rows holding. blocks_none c.args.columns.now c.args.epoch c.args.mark (epoch_at c.args.opened.now.vector.marks) rows c.args.out.now.items;
  kept = refl;
  moved = moved_none g.D.Disk c.args.disk.now;
}

pub loop-k-preserved : goal.loop-k-preserved
loop-k-preserved g c =
    let now = c.loop-k.invariant in
    let lt : c.loop-k.k < blocks c.args.container.now.rows = search rules in
    record {
      found = λ of m told rows holding.
          block_next c.args.columns.now c.args.epoch c.args.mark c.loop-k.k c.args.container.now.rows (epoch_at c.args.opened.now.vector.marks) rows c.args.out.now.items c.loop-k.out.items c.add_loaded.new.out.items lt
          (container_long m (written_of c.args.shape.now) c.args.container.now rows holding) (now.found of m told rows holding)
          (c.in-Ok.ensures.found (of_same (g.D.Disk.holds c.loop-k.disk) (g.D.Disk.holds c.args.disk.now) c.args.shape.now c.args.container.now c.args.columns.now c.args.opened.now now.kept of) m (now.kept ∙ told) rows holding);
      kept = c.add_loaded.ensures.kept ∙ now.kept;
      moved = moved_join g.D.Disk now.moved c.add_loaded.ensures.moved;
    }

pub returns-in-Err-clause-moved : goal.returns-in-Err-clause-moved
returns-in-Err-clause-moved g c = moved_join g.D.Disk c.loop-k.invariant.moved c.add_loaded.ensures.moved

pub returns-in-Err-clause-blamed : goal.returns-in-Err-clause-blamed
returns-in-Err-clause-blamed g c = λ of.
    let now = c.loop-k.invariant in
    blames_same c.args.shape.now c.args.container.now (g.D.Disk.holds c.loop-k.disk) (g.D.Disk.holds c.args.disk.now) c.in-Err.fault now.kept
    (c.in-Err.ensures.blamed (of_same (g.D.Disk.holds c.loop-k.disk) (g.D.Disk.holds c.args.disk.now) c.args.shape.now c.args.container.now c.args.columns.now c.args.opened.now now.kept of))

pub returns-clause-found : goal.returns-clause-found
returns-clause-found g c = λ of m told rows holding.
    let past : blocks c.args.container.now.rows ≤ c.loop-k.k = search rules in
    blocks_end c.args.columns.now c.args.epoch c.args.mark c.loop-k.k c.args.container.now.rows (epoch_at c.args.opened.now.vector.marks) rows c.args.out.now.items c.loop-k.out.items past
    (container_long m (written_of c.args.shape.now) c.args.container.now rows holding) (c.loop-k.invariant.found of m told rows holding)
