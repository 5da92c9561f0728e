use Rattle.std.proofs.Common.{◌∙◌, ◌≤◌, subst, refl, arith, rules}
use Rattle.pos_index.specs.Index.{blocks}
use Rattle.std.specs.Prelude.{Option}
use Rattle.common_laws.specs.Maps.{Contents}
use Rattle.col_disk.proofs.Moving.{moved_join, moved_none}
use Rattle.ros_container.specs.Encodings.{written_of}
use Rattle.ros_container.specs.Held.{BlamesContainer}
use Rattle.wanted_rows.specs.Wanted.{need_in}
use Rattle.proj_store.specs.Blocks.{in_list}
use Rattle.proj_store.proofs.BlockRows.{picked_none, picked_more, picked_all, none_inside, indexes_same}
use Rattle.proj_store.proofs.picks.pick_blocks.Goals as goal

pub loop-k-init : goal.loop-k-init
loop-k-init g c = record {
  picked = λ held. picked_none (g.D.Disk.holds c.args.disk.now) (written_of c.args.entry.now) c.args.container.now (in_list c.args.deletes.now) c.new-places.result.items (need_in c.args.wants.now) c.new-places.ensures.items;
  inside = none_inside c.args.container.now c.new-places.result.items c.new-places.ensures.items;
  fewer = λ q. omega arith;
  kept = refl;
  moved = moved_none g.D.Disk c.args.disk.now;
}

pub loop-k-preserved : goal.loop-k-preserved
loop-k-preserved g c =
    let now = c.loop-k.invariant in
    record {
      picked = λ held.
          picked_more (g.D.Disk.holds c.loop-k.disk) (g.D.Disk.holds c.args.disk.now) (written_of c.args.entry.now) c.args.container.now (in_list c.args.deletes.now) c.loop-k.k c.loop-k.places.items c.pick_block.new.places.items
          (need_in c.args.wants.now) (need_in c.loop-k.wants) (need_in c.pick_block.new.wants) now.kept (now.picked held)
          (c.in-Ok.ensures.found (indexes_same (written_of c.args.entry.now) c.args.container.now _ _ c.args.indexes.now now.kept held));
      inside = c.in-Ok.ensures.inside now.inside;
      fewer = λ q. omega (arith, now.fewer q, c.in-Ok.ensures.fewer q);
      kept = c.pick_block.ensures.kept ∙ now.kept;
      moved = moved_join g.D.Disk now.moved c.pick_block.ensures.moved;
    }

pub returns-in-Err-clause-moved : goal.returns-in-Err-clause-moved
returns-in-Err-clause-moved g c = moved_join g.D.Disk c.loop-k.invariant.moved c.pick_block.ensures.moved

pub returns-clause-found : goal.returns-clause-found
returns-clause-found g c = λ held.
    let past : blocks c.args.container.now.rows ≤ c.loop-k.k = search rules in
    picked_all (g.D.Disk.holds c.args.disk.now) (written_of c.args.entry.now) c.args.container.now (in_list c.args.deletes.now) c.loop-k.k c.loop-k.places.items (need_in c.args.wants.now) (need_in c.loop-k.wants) past (c.loop-k.invariant.picked held)

pub returns-in-Err-clause-blamed : goal.returns-in-Err-clause-blamed
returns-in-Err-clause-blamed g c = λ held.
    let same = c.loop-k.invariant.kept in
    subst (λ (h : Option Contents). BlamesContainer (written_of c.args.entry.now) c.args.container.now h c.in-Err.fault) same
    (c.in-Err.ensures.blamed (indexes_same (written_of c.args.entry.now) c.args.container.now (g.D.Disk.holds c.loop-k.disk) (g.D.Disk.holds c.args.disk.now) c.args.indexes.now same held))
