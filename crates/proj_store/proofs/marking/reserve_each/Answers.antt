use Rattle.std.proofs.Common.{◌<◌, ◌∙◌, length, ap, get_or, arith}
use Rattle.std.proofs.lemmas.List.{length-set, get_or_default}
use Rattle.proj_store.proofs.Rooms.{beside_stays, room_more}
use Rattle.proj_store.proofs.marking.reserve_each.Goals as goal

pub returns-in_err-reserve-clause-beside : goal.returns-in_err-reserve-clause-beside
returns-in_err-reserve-clause-beside c =
    let kept = c.loop-i.kept in
    let i = c.loop-i.i in
    let here : i < length kept = omega (arith, c.loop-i-test.true, c.loop-i.invariant.long, c.requires) in
    let one = get_or kept i c.index-kept-i.result in
    beside_stays kept i one c.reserve.new.self (get_or_default kept i c.index-kept-i.result one here) c.reserve.ensures.beside ∙ c.loop-i.invariant.beside

pub loop-i-preserved : goal.loop-i-preserved
loop-i-preserved c =
    let kept = c.loop-i.kept in
    let i = c.loop-i.i in
    let here : i < length kept = omega (arith, c.loop-i-test.true, c.loop-i.invariant.long, c.requires) in
    let one = get_or kept i c.index-kept-i.result in
    record {
      long = length-set kept i c.reserve.new.self ∙ c.loop-i.invariant.long;
      beside = beside_stays kept i one c.reserve.new.self (get_or_default kept i c.index-kept-i.result one here) c.reserve.ensures.beside ∙ c.loop-i.invariant.beside;
      room = room_more c.args.each.now kept i c.index-each-i.result c.reserve.new.self c.loop-i-test.true here c.index-each-i.is c.loop-i.invariant.room (omega (arith, c.in_ok-reserve.ensures.room, ap length c.as_slice.ensures));
    }
