use Rattle.std.proofs.Common.{◌≡◌, ◌∙◌, ◌≤◌, ℕ, List, length, sym, ap, subst, rules, arith}
use Rattle.std.specs.Prelude.{Some, vec_len}
use Rattle.col_io.specs.declared.reading.Got.TheVariants.{Absent, Whole, TooLong}
use Rattle.vert_cli.specs.Runs.{setting_of}
use Rattle.vert_cli.specs.Asked.{asked_by}
use Rattle.vert_cli.proofs.Serving.{found_absent, found_got, found_large, found_whole, held_run, no_script, short, too_large, unread}
use Rattle.vert_cli.proofs.program.run_file.Goals as goal

pub run_script-requires : goal.run_script-requires
run_script-requires g c =
    let fits : vec_len c.in-Ok-Whole.script ≤ 67108864 = rw c.in-Ok-Whole.field-0-is at c.in-Ok-Whole.ensures.within in
    let count : vec_len c.in-Ok-Whole.script ≡ length c.in-Ok-Whole.script.items = search rules in
    subst (λ (b : List ℕ). length b ≤ 67108864) (sym c.as_slice.ensures.value) (omega (arith, fits, count))

pub returns-in-Ok-Whole-clause-ran : goal.returns-in-Ok-Whole-clause-ran
returns-in-Ok-Whole-clause-ran g c = λ there content.
    let found = found_got (g.F.Files.content c.args.files.now) there c.args.name.now 67108864 c.in-Ok-Whole.field-0 (Whole c.in-Ok-Whole.script) c.in-Ok-Whole.field-0-is content c.in-Ok-Whole.ensures.found in
    let is = found_whole (there c.args.name.now) 67108864 c.in-Ok-Whole.script found ∙ ap (λ (b : List ℕ). Some b) (sym c.as_slice.ensures.value) in
    held_run g.D.Disk (setting_of there c.args.steps c.args.halts) (there c.args.name.now) c.as_slice.result.now c.args.disk.now c.run_script.new.disk (g.S.Sink.taken c.args.out.now) (g.S.Sink.taken c.run_script.new.out) c.run_script.result is
    (c.run_script.ensures.ran there (c.in-Ok-Whole.ensures.same ∙ content))

pub returns-in-Ok-Absent-clause-ran : goal.returns-in-Ok-Absent-clause-ran
returns-in-Ok-Absent-clause-ran g c = λ there content.
    let found = found_got (g.F.Files.content c.args.files.now) there c.args.name.now 67108864 c.in-Ok-Absent.field-0 Absent c.in-Ok-Absent.field-0-is content c.in-Ok-Absent.ensures.found in
    let held = there c.args.name.now in
    no_script g.D.Disk (setting_of there c.args.steps c.args.halts) held c.args.disk.now (g.S.Sink.taken c.args.out.now) (found_absent held 67108864 found)

pub returns-in-Ok-TooLong-clause-ran : goal.returns-in-Ok-TooLong-clause-ran
returns-in-Ok-TooLong-clause-ran g c = λ there content.
    let found = found_got (g.F.Files.content c.args.files.now) there c.args.name.now 67108864 c.in-Ok-TooLong.field-0 TooLong c.in-Ok-TooLong.field-0-is content c.in-Ok-TooLong.ensures.found in
    let held = there c.args.name.now in
    let setting = setting_of there c.args.steps c.args.halts in
    too_large g.D.Disk (asked_by setting held) c.args.disk.now (g.S.Sink.taken c.args.out.now) (found_large setting held found)

pub returns-in-Err-Failed-clause-ran : goal.returns-in-Err-Failed-clause-ran
returns-in-Err-Failed-clause-ran g c = λ there content. unread g.D.Disk (setting_of there c.args.steps c.args.halts) (there c.args.name.now) c.args.disk.now (g.S.Sink.taken c.args.out.now)

pub returns-in-Err-Memory-clause-ran : goal.returns-in-Err-Memory-clause-ran
returns-in-Err-Memory-clause-ran g c = λ there content.
    short g.D.Disk (asked_by (setting_of there c.args.steps c.args.halts) (there c.args.name.now)) c.args.disk.now (g.S.Sink.taken c.args.out.now)
