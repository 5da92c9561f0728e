use Rattle.std.proofs.Common.{ap}
use Rattle.std.specs.Prelude.{string_bytes}
use Rattle.run_words.specs.Told.{source_told}
use Rattle.vert_cli.proofs.Serving.{file_run, generated_run}
use Rattle.vert_cli.proofs.program.run_source.Goals as goal

pub returns-in-Script-clause-ran : goal.returns-in-Script-clause-ran
returns-in-Script-clause-ran g c = λ what asks.
    file_run g.D.Disk (source_told c.args.run.source) (string_bytes c.in-Script.name) c.as_str.result.now c.args.run.steps c.args.run.halts (g.F.Files.content c.args.files.now) what c.args.disk.now c.run_file.new.disk
    (g.S.Sink.taken c.args.out.now) (g.S.Sink.taken c.run_file.new.out) c.run_file.result (ap source_told c.in-Script.is) c.as_str.ensures.value c.run_file.ensures.ran asks

pub returns-in-Generated-clause-ran : goal.returns-in-Generated-clause-ran
returns-in-Generated-clause-ran g c = λ what asks.
    generated_run g.D.Disk (source_told c.args.run.source) c.in-Generated.lines c.in-Generated.seed c.args.run.steps c.args.run.halts (g.F.Files.content c.args.files.now) what c.args.disk.now c.run_generated.new.disk
    (g.S.Sink.taken c.args.out.now) (g.S.Sink.taken c.run_generated.new.out) c.run_generated.result (ap source_told c.in-Generated.is) c.run_generated.ensures.ran asks
