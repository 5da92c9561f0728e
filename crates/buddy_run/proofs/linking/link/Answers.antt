use Rattle.std.proofs.Common.{◌∙◌}
use Rattle.buddy_run.proofs.Ending.{disk_caused, done_ends, sink_ends, stop_ends}
use Rattle.buddy_run.proofs.linking.link.Goals as goal

pub returns-in-Ok-tell-clause-ends : goal.returns-in-Ok-tell-clause-ends
returns-in-Ok-tell-clause-ends g c = λ m n a b words holds reopens there_holds there_reopens.
    done_ends g.A.Disk c.bring_up.new.behind a b (g.S.Sink.taken c.args.out.now) (g.S.Sink.taken c.tell.new.out) c.in-Ok.field-0 c.as_slice.result.now (c.in-Ok.ensures.brings m n a b holds reopens there_holds there_reopens).done
    (c.as_slice.ensures.value ∙ c.in-Ok-caught_text.ensures) c.in-Ok-tell.ensures.whole

pub returns-in-Ok-caught_text-clause-ends : goal.returns-in-Ok-caught_text-clause-ends
returns-in-Ok-caught_text-clause-ends g c = λ m n a b words holds reopens there_holds there_reopens.
    sink_ends g.A.Disk c.bring_up.new.behind a b (g.S.Sink.taken c.args.out.now) (g.S.Sink.taken c.tell.new.out) c.in-Ok.field-0 c.as_slice.result.now c.in-Err-tell.status (c.in-Ok.ensures.brings m n a b holds reopens there_holds there_reopens).done
    (c.as_slice.ensures.value ∙ c.in-Ok-caught_text.ensures) c.in-Err-tell.ensures.front

pub returns-clause-usage : goal.returns-clause-usage
returns-clause-usage g c = λ is. absurd (c.stopped.ensures.own is)

pub returns-clause-ends : goal.returns-clause-ends
returns-clause-ends g c = λ m n a b three told reopens there_told there_reopens.
    let brings = c.in-Err.ensures.brings m n a b told reopens there_told there_reopens in
    stop_ends g.A.Disk c.bring_up.new.behind a b c.in-Err.fault (g.S.Sink.taken c.args.out.now) (g.S.Sink.taken c.stopped.new.out) c.stopped.result (c.stopped.ensures.ends a b brings.stopped) brings.stands

pub returns-clause-fault : goal.returns-clause-fault
returns-clause-fault g c = λ is.
    disk_caused c.in-Err.fault (g.A.Disk.faults c.args.behind.now) (g.A.Disk.faults c.bring_up.new.behind) (g.B.Disk.faults c.args.ahead.now) (g.B.Disk.faults c.bring_up.new.ahead) c.in-Err.ensures.behind_cause c.in-Err.ensures.ahead_cause
    (c.stopped.ensures.disk is)
