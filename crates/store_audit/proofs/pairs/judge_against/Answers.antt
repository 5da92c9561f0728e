use Rattle.std.proofs.Common.{◌∙◌, refl}
use Rattle.store_audit.specs.Passes.{CanCompare, pairs_beside, pairs_of}
use Rattle.store_audit.proofs.Firsts.{all_passed, at_place, others_in_turn, passed_more, told_here}
use Rattle.col_disk.proofs.Moving.{moved_join, moved_none}
use Rattle.store_audit.proofs.pairs.judge_against.Goals as goal

pub loop-second-init : goal.loop-second-init
loop-second-init g c = record { ahead = λ o judged. judged; kept = refl; moved = moved_none g.D.Disk c.args.disk.now }

pub judge_beside-requires : goal.judge_beside-requires
judge_beside-requires g c = at_place (CanCompare c.args.first.now) c.args.others.now c.loop-second.second-index c.second-item.result c.loop-second-test.true c.second-item.is c.requires

pub returns-in-Ok-Some-clause-judged : goal.returns-in-Ok-Some-clause-judged
returns-in-Ok-Some-clause-judged g c =
    let found = c.in-Ok-Some in
    told_here (pairs_beside c.args.table.now c.args.first.now) (pairs_of c.args.table.now c.args.first.now) (others_in_turn c.args.table.now c.args.first.now) (g.D.Disk.holds c.args.disk.now) (g.D.Disk.holds c.loop-second.disk) c.args.bounds.epoch c.args.bounds.mark c.args.others.now c.loop-second.second-index c.second-item.result found.field-0 found.verdict
    c.loop-second-test.true c.second-item.is c.loop-second.invariant.kept found.field-0-is c.loop-second.invariant.ahead found.ensures.judged

pub returns-in-Ok-Some-clause-moved : goal.returns-in-Ok-Some-clause-moved
returns-in-Ok-Some-clause-moved g c = moved_join g.D.Disk c.loop-second.invariant.moved c.judge_beside.ensures.moved

pub returns-in-Err-clause-moved : goal.returns-in-Err-clause-moved
returns-in-Err-clause-moved g c = moved_join g.D.Disk c.loop-second.invariant.moved c.judge_beside.ensures.moved

pub loop-second-preserved : goal.loop-second-preserved
loop-second-preserved g c =
    let passed = c.in-Ok-None in
    record {
      ahead = passed_more (pairs_beside c.args.table.now c.args.first.now) (pairs_of c.args.table.now c.args.first.now) (others_in_turn c.args.table.now c.args.first.now) (g.D.Disk.holds c.args.disk.now) (g.D.Disk.holds c.loop-second.disk) c.args.bounds.epoch c.args.bounds.mark c.args.others.now c.loop-second.second-index c.second-item.result passed.field-0
          c.loop-second-test.true c.second-item.is c.loop-second.invariant.kept passed.field-0-is c.loop-second.invariant.ahead passed.ensures.judged;
      kept = c.judge_beside.ensures.kept ∙ c.loop-second.invariant.kept;
      moved = moved_join g.D.Disk c.loop-second.invariant.moved c.judge_beside.ensures.moved;
    }

pub returns-clause-judged : goal.returns-clause-judged
returns-clause-judged g c =
    all_passed (pairs_beside c.args.table.now c.args.first.now) (pairs_of c.args.table.now c.args.first.now) (others_in_turn c.args.table.now c.args.first.now) (g.D.Disk.holds c.args.disk.now) c.args.bounds.epoch c.args.bounds.mark c.args.others.now c.loop-second.second-index c.loop-second-test.false c.loop-second.invariant.ahead
