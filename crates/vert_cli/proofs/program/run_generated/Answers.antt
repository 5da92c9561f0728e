use Rattle.std.proofs.Common.{◌≤◌, ℕ, List, length, sym, subst}
use Rattle.generated_load.specs.Load.{generated_files}
use Rattle.vert_cli.specs.Runs.{setting_of}
use Rattle.vert_cli.proofs.FewTexts.{generated_bytes}
use Rattle.vert_cli.proofs.Serving.{generated_here}
use Rattle.vert_cli.proofs.program.run_generated.Goals as goal

pub run_script-requires : goal.run_script-requires
run_script-requires g c = subst (λ (b : List ℕ). length b ≤ 67108864) (sym c.script.ensures) generated_bytes

pub returns-clause-ran : goal.returns-clause-ran
returns-clause-ran g c =
    generated_here g.D.Disk (setting_of (generated_files c.args.lines c.args.seed) c.args.steps c.args.halts) c.script.result.now c.args.disk.now c.run_script.new.disk (g.S.Sink.taken c.args.out.now) (g.S.Sink.taken c.run_script.new.out)
    c.run_script.result c.script.ensures (c.run_script.ensures.ran (generated_files c.args.lines c.args.seed) c.new-files.ensures.content)
