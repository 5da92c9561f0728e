use Rattle.std.proofs.Common.{◌≡◌, ◌+◌, ◌-◌, Some, length, take, drop}
use Rattle.std.specs.List.{slice_get}
use Rattle.stored_rows.specs.Listed.{SameFiles}
use Rattle.catch_files.specs.Parting.{OnBoth}
use Rattle.catch_files.proofs.Splits.{at_some, rest_from, turn_own, turn_shared}
use Rattle.catch_files.proofs.parting.part_one.Goals as goal

pub returns-in_ok-add_all-in-Some-clause-turns : goal.returns-in_ok-add_all-in-Some-clause-turns
returns-in_ok-add_all-in-Some-clause-turns g c =
    let rest = c.args.rest.now in
    let k = c.args.container.now in
    let i = c.in-Some.place in
    let there : slice_get rest i ≡ Some k = at_some c.in_ok-place.field-0 i (λ j. slice_get rest j ≡ Some k) c.in-Some.is c.in_ok-place.ensures.place in
    let same = at_some c.in_ok-place.field-0 i (λ j. OnBoth (g.A.Disk.holds c.args.at.now) (g.B.Disk.holds c.args.from.now) (λ m n. SameFiles m n k)) c.in-Some.is c.in_ok-place.ensures.same in
    turn_shared (g.A.Disk.holds c.args.at.now) (g.B.Disk.holds c.args.from.now) k rest (take (length rest - (i + 1)) (drop (i + 1) rest)) c.args.out.now.behind.items c.args.out.now.ahead.items c.add_all.new.out.items i there (rest_from (i + 1) rest) same
    c.in_ok-add_all-in-Some.ensures

pub returns-in_ok-push-in-None-clause-turns : goal.returns-in_ok-push-in-None-clause-turns
returns-in_ok-push-in-None-clause-turns g c =
    turn_own (g.A.Disk.holds c.args.at.now) (g.B.Disk.holds c.args.from.now) c.args.container.now c.args.rest.now c.args.out.now.behind.items c.args.out.now.ahead.items c.push.new.self.items c.in_ok-push-in-None.ensures.items
