use Rattle.std.proofs.Common.{◌≤◌, ◌∙◌, length, refl, arith}
use Rattle.col_disk.proofs.Moving.{moved_join, moved_none}
use Rattle.ros_container.specs.Encodings.{written_of}
use Rattle.audit_rows.proofs.Gathering.{collects_none, collects_more, collects_all, not_blamed, readable_at, item, item_is}
use Rattle.audit_rows.proofs.collecting.judged_rows.Goals as goal

pub loop-container-init : goal.loop-container-init
loop-container-init g c = record {
  found = collects_none (g.D.Disk.holds c.args.disk.now) (written_of c.args.shape.now) c.as_slice-containers.result.now c.args.columns.now c.args.epoch c.args.mark c.new-out.result.items c.new-out.ensures.items;
  kept = refl;
  moved = moved_none g.D.Disk c.args.disk.now;
}

pub add_container-requires-clause-readable : goal.add_container-requires-clause-readable
add_container-requires-clause-readable g c =
    let ks = c.as_slice-containers.result.now in
    let i = c.loop-container.container-index in
    readable_at c.args.shape.now.columns ks c.args.shape.now.containers i (item ks i) c.as_slice-containers.ensures c.requires.readable c.loop-container-test.true (item_is ks i c.loop-container-test.true)

pub loop-container-preserved : goal.loop-container-preserved
loop-container-preserved g c =
    let ks = c.as_slice-containers.result.now in
    let i = c.loop-container.container-index in
    let now = c.loop-container.invariant in
    record {
      found = collects_more (g.D.Disk.holds c.loop-container.disk) (g.D.Disk.holds c.args.disk.now) c.args.shape.now ks i (item ks i) c.args.columns.now c.args.epoch c.args.mark c.loop-container.out.items c.add_container.new.out.items now.kept
          c.loop-container-test.true (item_is ks i c.loop-container-test.true) now.found c.in-Ok.ensures.found;
      kept = c.add_container.ensures.kept ∙ now.kept;
      moved = moved_join g.D.Disk now.moved c.add_container.ensures.moved;
    }

pub returns-clause-found : goal.returns-clause-found
returns-clause-found g c =
    let ks = c.as_slice-containers.result.now in
    let past : length ks ≤ c.loop-container.container-index = omega (arith, c.loop-container-test.false) in
    collects_all (g.D.Disk.holds c.args.disk.now) c.args.shape.now ks c.loop-container.container-index c.args.columns.now c.args.epoch c.args.mark c.loop-container.out.items c.as_slice-containers.ensures past c.loop-container.invariant.found

pub returns-in-Err-clause-unblamed : goal.returns-in-Err-clause-unblamed
returns-in-Err-clause-unblamed g c =
    let ks = c.as_slice-containers.result.now in
    let i = c.loop-container.container-index in
    let now = c.loop-container.invariant in
    not_blamed (g.D.Disk.holds c.loop-container.disk) (g.D.Disk.holds c.args.disk.now) c.args.shape.now ks i (item ks i) c.args.columns.now c.args.epoch c.args.mark c.loop-container.out.items c.in-Err.fault now.kept
    c.as_slice-containers.ensures c.loop-container-test.true (item_is ks i c.loop-container-test.true) now.found c.in-Err.ensures.blamed

pub returns-in-Err-clause-moved : goal.returns-in-Err-clause-moved
returns-in-Err-clause-moved g c = moved_join g.D.Disk c.loop-container.invariant.moved c.add_container.ensures.moved
