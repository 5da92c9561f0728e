use Rattle.std.proofs.Common.{◌∙◌, sym}
use Rattle.col_disk.proofs.Moving.{moved_none}
use Rattle.store_audit.proofs.Firsts.{beside_judged, weaker_ok}
use Rattle.store_audit.proofs.pairs.judge_beside.Goals as goal

pub returns-then-is_other-clause-judged : goal.returns-then-is_other-clause-judged
returns-then-is_other-clause-judged g c =
    weaker_ok _ _ c.judge_pair.result
    (λ o judged.
    beside_judged (g.D.Disk.holds c.args.disk.now) c.args.bounds.epoch c.args.bounds.mark c.args.table.now c.args.first.now c.args.second.now o (sym c.is_other.ensures ∙ c.if-is_other.true) judged) c.judge_pair.ensures.judged

pub returns-else-is_other-clause-moved : goal.returns-else-is_other-clause-moved
returns-else-is_other-clause-moved g c = moved_none g.D.Disk c.args.disk.now
