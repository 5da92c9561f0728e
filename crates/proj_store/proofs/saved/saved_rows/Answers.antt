use Rattle.std.proofs.Common.{◌∙◌, ◌<◌, length, refl}
use Rattle.col_disk.proofs.Moving.{moved_join, moved_none}
use Rattle.ros_container.specs.Encodings.{written_of}
use Rattle.proj_store.proofs.SavedRows.{item, item_is, reads_more, reads_done, kept_within, kept_here, blames_here}
use Rattle.proj_store.proofs.saved.saved_rows.Goals as goal

pub loop-i-init : goal.loop-i-init
loop-i-init g c = record { found = λ m told. c.new-out.ensures.items; kept = refl; moved = moved_none g.D.Disk c.args.disk.now }

pub bounds-kept-i : goal.bounds-kept-i
bounds-kept-i g c = kept_within c.as_slice-containers.result.now c.args.entry.now.containers c.args.kept.now c.loop-i.i c.as_slice-containers.ensures c.requires.kept c.loop-i-test.true

pub read_rows-requires-clause-kept : goal.read_rows-requires-clause-kept
read_rows-requires-clause-kept g c =
    let ks = c.as_slice-containers.result.now in
    let i = c.loop-i.i in
    kept_here ks c.args.entry.now.containers c.args.kept.now i (item ks i) c.index-kept-i.result c.as_slice-containers.ensures c.requires.kept c.loop-i-test.true (item_is ks i c.loop-i-test.true) c.index-kept-i.is

pub loop-i-preserved : goal.loop-i-preserved
loop-i-preserved g c =
    let ks = c.as_slice-containers.result.now in
    let i = c.loop-i.i in
    let within : i < length c.args.kept.now = kept_within ks c.args.entry.now.containers c.args.kept.now i c.as_slice-containers.ensures c.requires.kept c.loop-i-test.true in
    record {
      found = reads_more (written_of c.args.entry.now) ks c.args.kept.now i (item ks i) c.index-kept-i.result c.loop-i.out.items c.add_rows.new.out.items c.in-Ok.rows.items _ _
          c.loop-i-test.true within (item_is ks i c.loop-i-test.true) c.index-kept-i.is c.loop-i.invariant.kept c.in-Ok-add_rows.ensures c.loop-i.invariant.found c.in-Ok.ensures.found;
      kept = c.read_rows.ensures.kept ∙ c.loop-i.invariant.kept;
      moved = moved_join g.D.Disk c.loop-i.invariant.moved c.read_rows.ensures.moved;
    }

pub returns-clause-found : goal.returns-clause-found
returns-clause-found g c =
    reads_done (written_of c.args.entry.now) c.as_slice-containers.result.now c.args.entry.now.containers c.args.kept.now c.loop-i.i c.loop-i.out.items _ c.as_slice-containers.ensures c.requires.kept c.loop-i-test.false c.loop-i.invariant.found

pub returns-in-Err-clause-blamed : goal.returns-in-Err-clause-blamed
returns-in-Err-clause-blamed g c =
    let ks = c.as_slice-containers.result.now in
    let i = c.loop-i.i in
    blames_here c.args.entry.now ks i (item ks i) _ _ c.in-Err.fault c.as_slice-containers.ensures c.loop-i-test.true (item_is ks i c.loop-i-test.true) c.loop-i.invariant.kept c.in-Err.ensures.blamed

pub returns-in-Err-clause-moved : goal.returns-in-Err-clause-moved
returns-in-Err-clause-moved g c = moved_join g.D.Disk c.loop-i.invariant.moved c.read_rows.ensures.moved

pub returns-in-Err-add_rows-clause-moved : goal.returns-in-Err-add_rows-clause-moved
returns-in-Err-add_rows-clause-moved g c = moved_join g.D.Disk c.loop-i.invariant.moved c.read_rows.ensures.moved
