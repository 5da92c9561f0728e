use Rattle.std.proofs.Common.{◌∙◌, map, sym, subst}
use Rattle.db_model.specs.State.{opened_with}
use Rattle.sql_words.specs.Texts.{cut}
use Rattle.vert_cli.specs.declared.faults.RunFault.{RunFault}
use Rattle.vert_cli.specs.Runs.{setting_of}
use Rattle.vert_cli.specs.Statuses.{status_of}
use Rattle.vert_cli.specs.Ends.{RunEnds}
use Rattle.vert_cli.proofs.Ending.{starts_with, not_opened, texts_stopped, texts_halted, texts_ended, end_failed, opening_leaves, texts_leave, end_leaves}
use Rattle.vert_cli.proofs.Naming.{ended_unnamed, finish_named, met_later, shut_named}
use Rattle.vert_cli.proofs.Serving.{fault_told, true_false}
use Rattle.vert_cli.proofs.script.run_opened.Goals as goal

pub returns-in-Err-clause-ends : goal.returns-in-Err-clause-ends
returns-in-Err-clause-ends g c = λ there d content openable.
    let setting = setting_of there c.args.steps c.args.halts in
    let texts = map (cut c.args.script.now) c.args.spans.now in
    let told = g.S.Sink.taken c.args.out.now in
    subst (λ (fault : RunFault). RunEnds (status_of fault) g.D.Disk setting d texts c.args.disk.now c.open.new.disk told told) (sym c.fault_of.ensures)
    (not_opened g.D.Disk setting d texts c.args.disk.now c.open.new.disk c.in-Err.fault told openable c.in-Err.ensures.blamed (c.in-Err.ensures.any_moment openable.files d openable.told openable.reopens))

pub returns-in-Err-clause-any_moment : goal.returns-in-Err-clause-any_moment
returns-in-Err-clause-any_moment g c = λ there d content openable.
    opening_leaves g.D.Disk (setting_of there c.args.steps c.args.halts) d (map (cut c.args.script.now) c.args.spans.now) c.args.disk.now c.open.new.disk (g.S.Sink.taken c.args.out.now) (g.S.Sink.taken c.args.out.now)
    (c.in-Err.ensures.any_moment openable.files d openable.told openable.reopens)

pub returns-in-Err-run_spans-clause-ends : goal.returns-in-Err-run_spans-clause-ends
returns-in-Err-run_spans-clause-ends g c = λ there d content openable.
    let setting = setting_of there c.args.steps c.args.halts in
    let texts = map (cut c.args.script.now) c.args.spans.now in
    let start = c.in-Ok.ensures.opened openable.files d openable.told openable.reopens in
    let starts = starts_with g.D.Disk openable.files c.args.disk.now d start.0 start.1 openable.told start.2 in
    let ran = c.in-Err-run_spans.ensures.ran there (opened_with start.0 start.1 d) c.args.halts content start.3 in
    let met = fault_told g.D.Disk setting d texts c.args.disk.now c.run_spans.new.disk c.blame.new.disk (g.S.Sink.taken c.args.out.now) (g.S.Sink.taken c.run_spans.new.out) c.in-Err-run_spans.fault c.blame.result c.blame.ensures.told
    (texts_stopped g.D.Disk setting d texts (opened_with start.0 start.1 d) c.run_spans.new.session.running c.args.disk.now c.open.new.disk c.run_spans.new.disk c.in-Err-run_spans.fault (g.S.Sink.taken c.args.out.now) (g.S.Sink.taken c.run_spans.new.out) starts ran)
    (texts_leave g.D.Disk setting d texts (opened_with start.0 start.1 d) c.args.disk.now c.open.new.disk c.run_spans.new.disk (g.S.Sink.taken c.args.out.now) (g.S.Sink.taken c.run_spans.new.out) starts (c.in-Ok.ensures.any_moment openable.files d openable.told openable.reopens) ran.any_moment) in
    met.0

pub returns-in-Err-run_spans-clause-any_moment : goal.returns-in-Err-run_spans-clause-any_moment
returns-in-Err-run_spans-clause-any_moment g c = λ there d content openable.
    let setting = setting_of there c.args.steps c.args.halts in
    let texts = map (cut c.args.script.now) c.args.spans.now in
    let start = c.in-Ok.ensures.opened openable.files d openable.told openable.reopens in
    let starts = starts_with g.D.Disk openable.files c.args.disk.now d start.0 start.1 openable.told start.2 in
    let ran = c.in-Err-run_spans.ensures.ran there (opened_with start.0 start.1 d) c.args.halts content start.3 in
    let met = fault_told g.D.Disk setting d texts c.args.disk.now c.run_spans.new.disk c.blame.new.disk (g.S.Sink.taken c.args.out.now) (g.S.Sink.taken c.run_spans.new.out) c.in-Err-run_spans.fault c.blame.result c.blame.ensures.told
    (texts_stopped g.D.Disk setting d texts (opened_with start.0 start.1 d) c.run_spans.new.session.running c.args.disk.now c.open.new.disk c.run_spans.new.disk c.in-Err-run_spans.fault (g.S.Sink.taken c.args.out.now) (g.S.Sink.taken c.run_spans.new.out) starts ran)
    (texts_leave g.D.Disk setting d texts (opened_with start.0 start.1 d) c.args.disk.now c.open.new.disk c.run_spans.new.disk (g.S.Sink.taken c.args.out.now) (g.S.Sink.taken c.run_spans.new.out) starts (c.in-Ok.ensures.any_moment openable.files d openable.told openable.reopens) ran.any_moment) in
    met.1

pub returns-then-halts-clause-ends : goal.returns-then-halts-clause-ends
returns-then-halts-clause-ends g c = λ there d content openable.
    let start = c.in-Ok.ensures.opened openable.files d openable.told openable.reopens in
    texts_halted g.D.Disk there c.args.steps c.args.halts d (map (cut c.args.script.now) c.args.spans.now) (opened_with start.0 start.1 d) c.run_spans.new.session.running c.args.disk.now c.open.new.disk c.run_spans.new.disk c.in-Ok-run_spans.refused
    (g.S.Sink.taken c.args.out.now) (g.S.Sink.taken c.run_spans.new.out) (starts_with g.D.Disk openable.files c.args.disk.now d start.0 start.1 openable.told start.2) c.if-halts.true (c.in-Ok-run_spans.ensures.ran there (opened_with start.0 start.1 d) c.args.halts content start.3)

pub returns-then-halts-clause-any_moment : goal.returns-then-halts-clause-any_moment
returns-then-halts-clause-any_moment g c = λ there d content openable.
    let start = c.in-Ok.ensures.opened openable.files d openable.told openable.reopens in
    let ran = c.in-Ok-run_spans.ensures.ran there (opened_with start.0 start.1 d) c.args.halts content start.3 in
    texts_leave g.D.Disk (setting_of there c.args.steps c.args.halts) d (map (cut c.args.script.now) c.args.spans.now) (opened_with start.0 start.1 d) c.args.disk.now c.open.new.disk c.run_spans.new.disk (g.S.Sink.taken c.args.out.now) (g.S.Sink.taken c.run_spans.new.out)
    (starts_with g.D.Disk openable.files c.args.disk.now d start.0 start.1 openable.told start.2) (c.in-Ok.ensures.any_moment openable.files d openable.told openable.reopens) ran.any_moment

pub returns-in-Ok-finish-clause-ends : goal.returns-in-Ok-finish-clause-ends
returns-in-Ok-finish-clause-ends g c = λ there d content openable.
    let start = c.in-Ok.ensures.opened openable.files d openable.told openable.reopens in
    texts_ended g.D.Disk there c.args.steps c.args.halts d (map (cut c.args.script.now) c.args.spans.now) (opened_with start.0 start.1 d) c.run_spans.new.session.running c.args.disk.now c.open.new.disk c.run_spans.new.disk c.finish.new.disk c.in-Ok-run_spans.refused
    c.in-Ok-finish.field-0 (g.S.Sink.taken c.args.out.now) (g.S.Sink.taken c.run_spans.new.out) (starts_with g.D.Disk openable.files c.args.disk.now d start.0 start.1 openable.told start.2) c.if-halts.false
    (c.in-Ok-run_spans.ensures.ran there (opened_with start.0 start.1 d) c.args.halts content start.3) (λ state here. (c.finish.new.self.running, c.in-Ok-finish.ensures.ends state here))

pub returns-in-Ok-finish-clause-any_moment : goal.returns-in-Ok-finish-clause-any_moment
returns-in-Ok-finish-clause-any_moment g c = λ there d content openable.
    let start = c.in-Ok.ensures.opened openable.files d openable.told openable.reopens in
    end_leaves g.D.Disk there c.args.steps c.args.halts d (map (cut c.args.script.now) c.args.spans.now) (opened_with start.0 start.1 d) c.run_spans.new.session.running c.args.disk.now c.open.new.disk c.run_spans.new.disk c.finish.new.disk c.in-Ok-run_spans.refused _
    (g.S.Sink.taken c.args.out.now) (g.S.Sink.taken c.run_spans.new.out) (starts_with g.D.Disk openable.files c.args.disk.now d start.0 start.1 openable.told start.2) c.if-halts.false (c.in-Ok.ensures.any_moment openable.files d openable.told openable.reopens)
    (c.in-Ok-run_spans.ensures.ran there (opened_with start.0 start.1 d) c.args.halts content start.3) (λ state here. (c.finish.new.self.running, c.in-Ok-finish.ensures.ends state here))

pub returns-clause-ends : goal.returns-clause-ends
returns-clause-ends g c = λ there d content openable.
    let setting = setting_of there c.args.steps c.args.halts in
    let texts = map (cut c.args.script.now) c.args.spans.now in
    let before = g.S.Sink.taken c.args.out.now in
    let after = g.S.Sink.taken c.run_spans.new.out in
    let start = c.in-Ok.ensures.opened openable.files d openable.told openable.reopens in
    let starts = starts_with g.D.Disk openable.files c.args.disk.now d start.0 start.1 openable.told start.2 in
    let ran = c.in-Ok-run_spans.ensures.ran there (opened_with start.0 start.1 d) c.args.halts content start.3 in
    let met = fault_told g.D.Disk setting d texts c.args.disk.now c.finish.new.disk c.blame-in-Err-finish.new.disk before after c.fault_of-in-Err-finish.result c.blame-in-Err-finish.result c.blame-in-Err-finish.ensures.told
    (subst (λ (fault : RunFault). RunEnds (status_of fault) g.D.Disk setting d texts c.args.disk.now c.finish.new.disk before after) (sym c.fault_of-in-Err-finish.ensures)
    (end_failed g.D.Disk there c.args.steps c.args.halts d texts (opened_with start.0 start.1 d) c.run_spans.new.session.running c.args.disk.now c.open.new.disk c.run_spans.new.disk c.finish.new.disk c.in-Ok-run_spans.refused c.in-Err-finish.fault before after starts c.if-halts.false ran
    (λ state here. (c.finish.new.self.running, c.in-Err-finish.ensures.ends state here))))
    (end_leaves g.D.Disk there c.args.steps c.args.halts d texts (opened_with start.0 start.1 d) c.run_spans.new.session.running c.args.disk.now c.open.new.disk c.run_spans.new.disk c.finish.new.disk c.in-Ok-run_spans.refused _ before after starts c.if-halts.false
    (c.in-Ok.ensures.any_moment openable.files d openable.told openable.reopens) ran (λ state here. (c.finish.new.self.running, c.in-Err-finish.ensures.ends state here))) in
    met.0

pub returns-clause-any_moment : goal.returns-clause-any_moment
returns-clause-any_moment g c = λ there d content openable.
    let setting = setting_of there c.args.steps c.args.halts in
    let texts = map (cut c.args.script.now) c.args.spans.now in
    let before = g.S.Sink.taken c.args.out.now in
    let after = g.S.Sink.taken c.run_spans.new.out in
    let start = c.in-Ok.ensures.opened openable.files d openable.told openable.reopens in
    let starts = starts_with g.D.Disk openable.files c.args.disk.now d start.0 start.1 openable.told start.2 in
    let ran = c.in-Ok-run_spans.ensures.ran there (opened_with start.0 start.1 d) c.args.halts content start.3 in
    let met = fault_told g.D.Disk setting d texts c.args.disk.now c.finish.new.disk c.blame-in-Err-finish.new.disk before after c.fault_of-in-Err-finish.result c.blame-in-Err-finish.result c.blame-in-Err-finish.ensures.told
    (subst (λ (fault : RunFault). RunEnds (status_of fault) g.D.Disk setting d texts c.args.disk.now c.finish.new.disk before after) (sym c.fault_of-in-Err-finish.ensures)
    (end_failed g.D.Disk there c.args.steps c.args.halts d texts (opened_with start.0 start.1 d) c.run_spans.new.session.running c.args.disk.now c.open.new.disk c.run_spans.new.disk c.finish.new.disk c.in-Ok-run_spans.refused c.in-Err-finish.fault before after starts c.if-halts.false ran
    (λ state here. (c.finish.new.self.running, c.in-Err-finish.ensures.ends state here))))
    (end_leaves g.D.Disk there c.args.steps c.args.halts d texts (opened_with start.0 start.1 d) c.run_spans.new.session.running c.args.disk.now c.open.new.disk c.run_spans.new.disk c.finish.new.disk c.in-Ok-run_spans.refused _ before after starts c.if-halts.false
    (c.in-Ok.ensures.any_moment openable.files d openable.told openable.reopens) ran (λ state here. (c.finish.new.self.running, c.in-Err-finish.ensures.ends state here))) in
    met.1

pub returns-in-Err-clause-blamed : goal.returns-in-Err-clause-blamed
returns-in-Err-clause-blamed g c =
    shut_named g.D.Disk c.in-Err.fault c.fault_of.result c.args.disk.now c.open.new.disk (g.S.Sink.taken c.args.out.now) c.fault_of.ensures c.in-Err.ensures.blamed c.in-Err.ensures.untouched

pub returns-in-Err-run_spans-clause-blamed : goal.returns-in-Err-run_spans-clause-blamed
returns-in-Err-run_spans-clause-blamed g c = λ q is.
    met_later g.D.Disk c.blame.result q c.args.disk.now c.blame.new.disk (g.S.Sink.taken c.args.out.now) (g.S.Sink.taken c.run_spans.new.out) (λ m told. c.in-Ok.ensures.opens m told) (λ n same. c.blame.ensures.named c.in-Err-run_spans.ensures.named n same) is

pub returns-then-halts-clause-blamed : goal.returns-then-halts-clause-blamed
returns-then-halts-clause-blamed g c = λ q is. ended_unnamed c.in-Ok-run_spans.refused q is

pub returns-in-Ok-finish-clause-blamed : goal.returns-in-Ok-finish-clause-blamed
returns-in-Ok-finish-clause-blamed g c = λ q is. ended_unnamed c.in-Ok-run_spans.refused q is

pub returns-clause-blamed : goal.returns-clause-blamed
returns-clause-blamed g c = λ q is.
    met_later g.D.Disk c.blame-in-Err-finish.result q c.args.disk.now c.blame-in-Err-finish.new.disk (g.S.Sink.taken c.args.out.now) (g.S.Sink.taken c.run_spans.new.out) (λ m told. c.in-Ok.ensures.opens m told)
    (λ n same. c.blame-in-Err-finish.ensures.named (finish_named g.D.Disk c.finish.new.self.running c.finish.new.disk c.in-Err-finish.fault c.fault_of-in-Err-finish.result c.fault_of-in-Err-finish.ensures c.in-Err-finish.ensures.named) n same) is

pub returns-then-halts-clause-shows : goal.returns-then-halts-clause-shows
returns-then-halts-clause-shows g c = λ there d content openable halted none.
    let start = c.in-Ok.ensures.opened openable.files d openable.told openable.reopens in (
      opened_with start.0 start.1 d,
      starts_with g.D.Disk openable.files c.args.disk.now d start.0 start.1 openable.told start.2,
      c.in-Ok-run_spans.ensures.shows there (opened_with start.0 start.1 d) c.args.halts content start.3 none,
    )

pub returns-in-Ok-finish-clause-shows : goal.returns-in-Ok-finish-clause-shows
returns-in-Ok-finish-clause-shows g c = λ there d content openable halted. absurd (true_false (sym halted ∙ c.if-halts.false))
