use Rattle.std.proofs.Common.{◌≡◌, ◌≤◌, arith, length, rules}
use Rattle.catch_rows.proofs.Quiet.{all_of, one_more, within}
use Rattle.catch_rows.proofs.alike.has_no_marks.Goals as goal

pub fresh_marks-requires : goal.fresh_marks-requires
fresh_marks-requires c =
    let shown : c.as_slice-place-end.result.now ≡ c.args.store.now.stored.entry.containers = search rules in
    within c.args.store.now.stored c.as_slice-place-end.result.now c.loop-place.place shown c.entry.ensures.sound c.loop-place-test.true

pub loop-place-preserved : goal.loop-place-preserved
loop-place-preserved c =
    let p = c.args.store.now.stored in
    let shown : c.as_slice-place-end.result.now ≡ p.entry.containers = search rules in
    let none : length c.fresh_marks.result.now ≡ 0 = search rules in
    one_more p.beside c.loop-place.place c.fresh_marks.result.now (within p c.as_slice-place-end.result.now c.loop-place.place shown c.entry.ensures.sound c.loop-place-test.true) c.fresh_marks.ensures none c.loop-place.invariant

pub returns : goal.returns
returns c = λ yes.
    let p = c.args.store.now.stored in
    let shown : c.as_slice-place-end.result.now ≡ p.entry.containers = search rules in
    let most : length c.as_slice-place-end.result.now ≤ c.loop-place.place = let test = c.loop-place-test.false in omega (arith, test) in
    all_of p c.as_slice-place-end.result.now c.loop-place.place shown c.entry.ensures.sound most c.loop-place.invariant
