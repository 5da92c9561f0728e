use Rattle.std.proofs.Common.{◌<◌, ◌∙◌, length, refl, ap, get_or, arith}
use Rattle.std.proofs.lemmas.List.{length-set, get_or_default}
use Rattle.proj_store.specs.Loaded.{beside_of}
use Rattle.proj_store.specs.Marking.{marked_beside}
use Rattle.proj_store.proofs.Rooms.{marked_start, marked_more, rest_more, room_at, rooms_long}
use Rattle.proj_store.proofs.marking.mark_each.Goals as goal

pub loop-i-init : goal.loop-i-init
loop-i-init c = record { long = refl; marked = marked_start c.args.epoch c.args.kept.now; rest = λ j d le. refl }

pub bounds-kept-i : goal.bounds-kept-i
bounds-kept-i c = omega (arith, c.loop-i-test.true, c.loop-i.invariant.long, rooms_long c.args.each.now c.args.kept.now c.requires)

pub mark-requires : goal.mark-requires
mark-requires c =
    let kept = c.loop-i.kept in
    let i = c.loop-i.i in
    let also : i < length c.args.kept.now = omega (arith, c.loop-i-test.true, rooms_long c.args.each.now c.args.kept.now c.requires) in
    let here : i < length kept = omega (arith, also, c.loop-i.invariant.long) in
    let one = get_or kept i c.index-kept-i.result in
    let le = room_at c.args.each.now c.args.kept.now kept i c.index-each-i.result one c.requires c.loop-i-test.true also c.index-each-i.is (get_or_default kept i c.index-kept-i.result one here) c.loop-i.invariant.rest in
    omega (arith, le, ap length c.as_slice.ensures)

pub loop-i-preserved : goal.loop-i-preserved
loop-i-preserved c =
    let kept = c.loop-i.kept in
    let i = c.loop-i.i in
    let also : i < length c.args.kept.now = omega (arith, c.loop-i-test.true, rooms_long c.args.each.now c.args.kept.now c.requires) in
    let here : i < length kept = omega (arith, also, c.loop-i.invariant.long) in
    let one = get_or kept i c.index-kept-i.result in
    record {
      long = length-set kept i c.mark.new.self ∙ c.loop-i.invariant.long;
      marked = marked_more c.args.epoch c.args.kept.now kept c.args.each.now i c.index-each-i.result one c.mark.new.self c.loop-i-test.true also c.index-each-i.is (get_or_default kept i c.index-kept-i.result one here) c.loop-i.invariant.rest
          c.loop-i.invariant.marked (c.mark.ensures ∙ ap (marked_beside c.args.epoch (beside_of one)) c.as_slice.ensures);
      rest = rest_more c.args.kept.now kept i c.mark.new.self c.loop-i.invariant.rest;
    }
