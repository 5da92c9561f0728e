use Rattle.std.proofs.Common.{◌≡◌, ◌≤◌, map, take, Bool, false}
use Rattle.std.specs.Prelude.{Some}
use Rattle.db_model.specs.Loading.{Files as LoadFiles}
use Rattle.db_model.specs.State.{State}
use Rattle.sql_words.specs.Texts.{cut}
use Rattle.store_step.specs.Running.{IsState}
use Rattle.vert_cli.specs.Runs.{setting_of}
use Rattle.vert_cli.specs.Shown.{ShowsLastOf}
use Rattle.vert_cli.proofs.Ending.{RanSoFar}
use Rattle.vert_cli.proofs.script.run_spans.Given as goal

abbrev pub invariant-loop-span : goal.invariant-loop-span
invariant-loop-span g l = record {
  ran : (there : LoadFiles) (start : State) (halts : Bool) → g.F.Files.content l.fn.files ≡ Some there → IsState g.D.Disk l.fn.session.running l.fn.disk start
      → RanSoFar g.D.Disk (setting_of there l.fn.steps halts) (map (cut l.fn.script) l.fn.spans) l.span-index l.session.running l.fn.disk l.disk start l.refused (g.S.Sink.taken l.fn.out) (g.S.Sink.taken l.out);
  shows : (there : LoadFiles) (start : State) (halts : Bool) → g.F.Files.content l.fn.files ≡ Some there → IsState g.D.Disk l.fn.session.running l.fn.disk start → l.fn.steps ≡ 0
      → ShowsLastOf g.D.Disk (setting_of there l.fn.steps halts) start (take l.span-index (map (cut l.fn.script) l.fn.spans)) l.refused l.disk (g.S.Sink.taken l.fn.out) (g.S.Sink.taken l.out);
  live : l.session.halted ≡ false;
  content : g.F.Files.content l.files ≡ g.F.Files.content l.fn.files;
  sinks : g.S.Sink.faults l.fn.out ≤ g.S.Sink.faults l.out;
  reads : g.F.Files.faults l.fn.files ≤ g.F.Files.faults l.files;
  faults : g.D.Disk.faults l.fn.disk ≤ g.D.Disk.faults l.disk;
}
