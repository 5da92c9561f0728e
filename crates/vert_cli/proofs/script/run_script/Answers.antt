use Rattle.std.proofs.Common.{◌∙◌, ◌≡◌, ◌≤◌, ◌<◌, ℕ, List, length, map, ap, subst, sym, rules, arith}
use Rattle.std.specs.Prelude.{Some, vec_len}
use Rattle.std.proofs.lemmas.List.{length-map}
use Rattle.sql_words.specs.Texts.{cut, statement_texts}
use Rattle.vert_cli.specs.Runs.{setting_of}
use Rattle.vert_cli.specs.Asked.{asked_by}
use Rattle.vert_cli.proofs.Naming.{damaged_only}
use Rattle.vert_cli.proofs.Serving.{disk_only, large_many, never_begun, never_misused, read_only, served, short, sink_only, too_large}
use Rattle.vert_cli.proofs.Showing.{run_shown}
use Rattle.vert_cli.proofs.script.run_script.Goals as goal

pub returns-in-Err-clause-ran : goal.returns-in-Err-clause-ran
returns-in-Err-clause-ran g c = λ there content.
    short g.D.Disk (asked_by (setting_of there c.args.steps c.args.halts) (Some c.args.script.now)) c.args.disk.now (g.S.Sink.taken c.args.out.now)

pub returns-then-len-gt-MOST_STATEMENTS-clause-ran : goal.returns-then-len-gt-MOST_STATEMENTS-clause-ran
returns-then-len-gt-MOST_STATEMENTS-clause-ran g c = λ there content.
    let count : vec_len c.in-Ok.spans ≡ length c.in-Ok.spans.items = search rules in
    let texts = length-map c.in-Ok.spans.items (cut c.args.script.now) in
    let some : 4096 < length (map (cut c.args.script.now) c.in-Ok.spans.items) = omega (arith, texts, count, c.len.ensures, c.if-len-gt-MOST_STATEMENTS.true) in
    let many : 4096 < length (statement_texts c.args.script.now) = subst (λ (ts : List (List ℕ)). 4096 < length ts) (ap (map (cut c.args.script.now)) c.in-Ok.ensures.spans) some in
    let setting = setting_of there c.args.steps c.args.halts in
    too_large g.D.Disk (asked_by setting (Some c.args.script.now)) c.args.disk.now (g.S.Sink.taken c.args.out.now) (large_many setting c.args.script.now many)

pub returns-clause-ran : goal.returns-clause-ran
returns-clause-ran g c = λ there content.
    let count : vec_len c.in-Ok.spans ≡ length c.in-Ok.spans.items = search rules in
    let texts = length-map c.in-Ok.spans.items (cut c.args.script.now) in
    let some : length (map (cut c.args.script.now) c.in-Ok.spans.items) ≤ 4096 = omega (arith, texts, count, c.len.ensures, c.if-len-gt-MOST_STATEMENTS.false) in
    let few : length (map (cut c.args.script.now) c.as_slice.result.now) ≤ 4096 = subst (λ (ts : List (List ℕ)). length ts ≤ 4096) (ap (map (cut c.args.script.now)) (sym c.as_slice.ensures.value)) some in
    served g.D.Disk (setting_of there c.args.steps c.args.halts) c.args.script.now (map (cut c.args.script.now) c.as_slice.result.now) c.args.disk.now c.run_opened.new.disk (g.S.Sink.taken c.args.out.now) (g.S.Sink.taken c.run_opened.new.out)
    c.status_of_end.result c.run_opened.result c.requires few c.status_of_end.ensures (ap (map (cut c.args.script.now)) (c.as_slice.ensures.value ∙ c.in-Ok.ensures.spans))
    (λ d openable. c.run_opened.ensures.ends there d content openable) (λ d openable. c.run_opened.ensures.any_moment there d content openable)
    (λ d openable halted none refused done. run_shown c.run_opened.result _ (c.run_opened.ensures.shows there d content openable halted none) refused done)

pub returns-clause-named : goal.returns-clause-named
returns-clause-named g c = λ same. never_misused c.run_opened.result c.status_of_end.result c.status_of_end.ensures same

pub returns-clause-idle : goal.returns-clause-idle
returns-clause-idle g c = λ never. absurd (never_begun c.run_opened.result c.status_of_end.result c.status_of_end.ensures never)

pub returns-clause-sink : goal.returns-clause-sink
returns-clause-sink g c = λ is. c.run_opened.ensures.sink (sink_only c.run_opened.result (sym c.status_of_end.ensures ∙ is))

pub returns-clause-read : goal.returns-clause-read
returns-clause-read g c = λ is. c.run_opened.ensures.read (read_only c.run_opened.result (sym c.status_of_end.ensures ∙ is))

pub returns-clause-fault : goal.returns-clause-fault
returns-clause-fault g c = λ is. c.run_opened.ensures.cause.failed (disk_only c.run_opened.result c.run_opened.ensures.not_halted (sym c.status_of_end.ensures ∙ is))

pub returns-clause-blamed : goal.returns-clause-blamed
returns-clause-blamed g c = λ q is. c.run_opened.ensures.blamed q (damaged_only c.run_opened.result q (sym c.status_of_end.ensures ∙ is))
