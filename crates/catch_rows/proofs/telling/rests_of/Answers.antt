use Rattle.std.proofs.lemmas.Result.{IfErr-weaker, IfOk-weaker}
use Rattle.ros_container.specs.Encodings.{written_of}
use Rattle.col_disk.proofs.Moving.{moved_none}
use Rattle.catch_files.proofs.Splits.{at_some}
use Rattle.catch_rows.specs.Sharing.{IsPair}
use Rattle.catch_rows.proofs.Found.{pair_shares, pair_short}
use Rattle.catch_rows.proofs.telling.rests_of.Goals as goal

pub returns-in_err-pair-clause-behind_moved : goal.returns-in_err-pair-clause-behind_moved
returns-in_err-pair-clause-behind_moved g c = moved_none g.A.Disk c.args.at.now

pub returns-in_err-pair-clause-ahead_moved : goal.returns-in_err-pair-clause-ahead_moved
returns-in_err-pair-clause-ahead_moved g c = moved_none g.B.Disk c.args.from.now

pub returns-in-Some-clause-found : goal.returns-in-Some-clause-found
returns-in-Some-clause-found g c =
    let pair = c.in-Some.pair in
    let is = at_some c.in_ok-pair.field-0 pair (λ x. IsPair c.args.behind.now c.args.ahead.now c.args.table x.places.items x.first.now x.second.now) c.in-Some.is c.in_ok-pair.ensures in
    IfOk-weaker c.rests_in.result _ _ (λ r rests. λ a b here there.
    pair_shares c.one_list_of_rows.ensures.stored c.vectors_are_those_of_the_disk.ensures.stores (λ m p xs ys. c.one_list_of_rows.ensures.held m (written_of p) p.containers xs ys) c.other_files_may_change.ensures.held g.A.Disk g.B.Disk c.args.at.now c.args.from.now
    c.args.behind.now c.args.ahead.now a b c.args.table c.args.mark pair.places.items pair.first.now pair.second.now r.behind.items r.ahead.items is rests here there) c.rests_in.ensures.found

pub returns-in-Some-clause-short : goal.returns-in-Some-clause-short
returns-in-Some-clause-short g c =
    let pair = c.in-Some.pair in
    let is = at_some c.in_ok-pair.field-0 pair (λ x. IsPair c.args.behind.now c.args.ahead.now c.args.table x.places.items x.first.now x.second.now) c.in-Some.is c.in_ok-pair.ensures in
    IfErr-weaker c.rests_in.result _ _ (λ fault short. λ a b here there.
    pair_short c.one_list_of_rows.ensures.stored c.vectors_are_those_of_the_disk.ensures.stores g.A.Disk g.B.Disk c.args.at.now c.args.from.now c.args.behind.now c.args.ahead.now a b c.args.table pair.places.items pair.first.now pair.second.now fault is short here there)
    c.rests_in.ensures.short
