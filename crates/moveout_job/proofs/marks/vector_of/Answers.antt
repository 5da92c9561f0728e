use Rattle.std.proofs.Common.{◌<◌, get_or, rules}
use Rattle.std.proofs.lemmas.List.{get_or_default}
use Rattle.moveout_job.proofs.Joined.{blank, first_more}
use Rattle.moveout_job.proofs.marks.vector_of.Goals as goal

pub loop-mark-preserved : goal.loop-mark-preserved
loop-mark-preserved c =
    let marks = c.args.marks.now in
    let i = c.loop-mark.mark-index in
    let mark = get_or marks i blank in
    let below : mark.position < c.args.rows = search rules in
    first_more c.args.rows marks i mark c.loop-mark.vector.marks c.put_mark.new.vector.marks c.loop-mark-test.true (get_or_default marks i blank mark c.loop-mark-test.true) below
    c.in_ok-put_mark.ensures.epochs c.in_ok-put_mark.ensures.within c.loop-mark.invariant
