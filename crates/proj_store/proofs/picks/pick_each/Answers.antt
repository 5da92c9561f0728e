use Rattle.std.proofs.Common.{◌∙◌, ◌<◌, length, refl}
use Rattle.col_disk.proofs.Moving.{moved_join, moved_none}
use Rattle.ros_container.specs.Encodings.{written_of}
use Rattle.wanted_rows.specs.Wanted.{need_in}
use Rattle.proj_store.proofs.SavedRows.{item, item_is, kept_within, kept_here, blames_here}
use Rattle.proj_store.proofs.Picking.{none_picked, none_placed, picks_more, picks_done, places_more, places_done}
use Rattle.proj_store.proofs.picks.pick_each.Goals as goal

pub bounds-kept-i : goal.bounds-kept-i
bounds-kept-i g c = kept_within c.as_slice-containers.result.now c.args.entry.now.containers c.args.kept.now c.loop-i.i c.as_slice-containers.ensures c.requires.sound.kept c.loop-i-test.true

pub pick_more-requires-clause-kept : goal.pick_more-requires-clause-kept
pick_more-requires-clause-kept g c =
    let ks = c.as_slice-containers.result.now in
    let i = c.loop-i.i in
    kept_here ks c.args.entry.now.containers c.args.kept.now i (item ks i) c.index-kept-i.result c.as_slice-containers.ensures c.requires.sound.kept c.loop-i-test.true (item_is ks i c.loop-i-test.true) c.index-kept-i.is

pub loop-i-preserved : goal.loop-i-preserved
loop-i-preserved g c =
    let ks = c.as_slice-containers.result.now in
    let i = c.loop-i.i in
    let within : i < length c.args.kept.now = kept_within ks c.args.entry.now.containers c.args.kept.now i c.as_slice-containers.ensures c.requires.sound.kept c.loop-i-test.true in
    let is = item_is ks i c.loop-i-test.true in
    let (places, added, inside, found) = c.in-Ok.ensures.more in
    record {
      found = picks_more (written_of c.args.entry.now) ks c.args.kept.now i (item ks i) c.index-kept-i.result c.loop-i.each.items c.pick_more.new.each.items places _ _ _ _ _
          c.loop-i-test.true within is c.index-kept-i.is c.loop-i.invariant.kept added c.loop-i.invariant.found found;
      inside = places_more ks i (item ks i) c.loop-i.each.items c.pick_more.new.each.items places c.loop-i-test.true is added c.loop-i.invariant.inside inside;
      kept = c.pick_more.ensures.kept ∙ c.loop-i.invariant.kept;
      moved = moved_join g.D.Disk c.loop-i.invariant.moved c.pick_more.ensures.moved;
    }

pub returns-clause-found : goal.returns-clause-found
returns-clause-found g c =
    picks_done (written_of c.args.entry.now) c.as_slice-containers.result.now c.args.entry.now.containers c.args.kept.now c.loop-i.each.items _ _ c.loop-i.i _ c.as_slice-containers.ensures c.requires.sound.kept c.loop-i-test.false c.loop-i.invariant.found

pub returns-clause-inside : goal.returns-clause-inside
returns-clause-inside g c = places_done c.as_slice-containers.result.now c.args.entry.now.containers c.loop-i.each.items c.loop-i.i c.as_slice-containers.ensures c.loop-i-test.false c.loop-i.invariant.inside

pub returns-in-Err-clause-blamed : goal.returns-in-Err-clause-blamed
returns-in-Err-clause-blamed g c =
    let ks = c.as_slice-containers.result.now in
    let i = c.loop-i.i in
    blames_here c.args.entry.now ks i (item ks i) _ _ c.in-Err.fault c.as_slice-containers.ensures c.loop-i-test.true (item_is ks i c.loop-i-test.true) c.loop-i.invariant.kept c.in-Err.ensures.blamed

pub returns-in-Err-clause-moved : goal.returns-in-Err-clause-moved
returns-in-Err-clause-moved g c = moved_join g.D.Disk c.loop-i.invariant.moved c.pick_more.ensures.moved

pub loop-i-init : goal.loop-i-init
loop-i-init g c = record {
  found = λ m told. none_picked m (written_of c.args.entry.now) c.new-each.result.items (need_in c.args.wants.now) c.new-each.ensures.items;
  inside = none_placed c.new-each.result.items c.new-each.ensures.items;
  kept = refl;
  moved = moved_none g.D.Disk c.args.disk.now;
}
