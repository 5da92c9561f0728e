use Rattle.std.proofs.Common.{◌∙◌, refl, map, false, arith}
use Rattle.sql_words.specs.Texts.{cut}
use Rattle.vert_cli.specs.Runs.{setting_of}
use Rattle.vert_cli.proofs.Ending.{so_far_none, so_far_more, so_far_stopped, so_far_all}
use Rattle.vert_cli.proofs.Showing.{all_last, next_last, none_last}
use Rattle.vert_cli.proofs.script.run_spans.Goals as goal

pub loop-span-init : goal.loop-span-init
loop-span-init g c = record {
  ran = λ there start halts content here.
      so_far_none g.D.Disk (setting_of there c.args.steps halts) (map (cut c.args.script.now) c.args.spans.now) c.args.session.now.running c.args.disk.now start (g.S.Sink.taken c.args.out.now) here;
  shows = λ there start halts content here none. none_last g.D.Disk (setting_of there c.args.steps halts) start false c.args.disk.now (g.S.Sink.taken c.args.out.now) (g.S.Sink.taken c.args.out.now);
  live = c.requires.live;
  content = refl;
  sinks = omega arith;
  reads = omega arith;
  faults = omega arith;
}

pub returns-in-Err-clause-ran : goal.returns-in-Err-clause-ran
returns-in-Err-clause-ran g c = λ there start halts content here.
    let so_far = c.loop-span.invariant.ran there start halts content here in
    so_far_stopped g.D.Disk (cut c.args.script.now) c.args.spans.now c.loop-span.span-index _ (setting_of there c.args.steps halts) c.loop-span.session.running c.run_text.new.session.running c.args.disk.now c.loop-span.disk c.run_text.new.disk start
    c.loop-span.refused c.in-Err.fault (g.S.Sink.taken c.args.out.now) (g.S.Sink.taken c.loop-span.out) (g.S.Sink.taken c.run_text.new.out) (omega (arith, c.loop-span-test.true)) so_far
    (c.in-Err.ensures.ran there so_far.mid halts (c.loop-span.invariant.content ∙ content) so_far.stands)

pub loop-span-preserved : goal.loop-span-preserved
loop-span-preserved g c = record {
  ran = λ there start halts content here.
      (let so_far = c.loop-span.invariant.ran there start halts content here in
      so_far_more g.D.Disk (cut c.args.script.now) c.args.spans.now c.loop-span.span-index _ (setting_of there c.args.steps halts) c.loop-span.session.running c.run_text.new.session.running c.args.disk.now c.loop-span.disk c.run_text.new.disk start
      c.loop-span.refused c.either-refused.result c.in-Ok.was (g.S.Sink.taken c.args.out.now) (g.S.Sink.taken c.loop-span.out) (g.S.Sink.taken c.run_text.new.out) (omega (arith, c.loop-span-test.true)) c.either-refused.ensures so_far
      (c.in-Ok.ensures.ran there so_far.mid halts (c.loop-span.invariant.content ∙ content) so_far.stands));
  shows = λ there start halts content here none.
      (let so_far = c.loop-span.invariant.ran there start halts content here in
      next_last g.D.Disk (cut c.args.script.now) c.args.spans.now c.loop-span.span-index _ (setting_of there c.args.steps halts) c.run_text.new.session.running start so_far.mid c.loop-span.disk c.run_text.new.disk
      c.loop-span.refused c.either-refused.result c.in-Ok.was (g.S.Sink.taken c.args.out.now) (g.S.Sink.taken c.loop-span.out) (g.S.Sink.taken c.run_text.new.out) (omega (arith, c.loop-span-test.true)) c.either-refused.ensures so_far.whole
      (c.in-Ok.ensures.ran there so_far.mid halts (c.loop-span.invariant.content ∙ content) so_far.stands) (c.in-Ok.ensures.shows there so_far.mid (c.loop-span.invariant.content ∙ content) so_far.stands none));
  live = c.in-Ok.ensures.live;
  content = c.in-Ok.ensures.content ∙ c.loop-span.invariant.content;
  sinks = omega (arith, c.loop-span.invariant.sinks, c.in-Ok.ensures.later);
  reads = omega (arith, c.loop-span.invariant.reads, c.in-Ok.ensures.files_later);
  faults = omega (arith, c.loop-span.invariant.faults, c.in-Ok.ensures.cause.later);
}

pub returns-clause-ran : goal.returns-clause-ran
returns-clause-ran g c = λ there start halts content here.
    so_far_all g.D.Disk (cut c.args.script.now) c.args.spans.now c.loop-span.span-index (setting_of there c.args.steps halts) c.loop-span.session.running c.args.disk.now c.loop-span.disk start c.loop-span.refused (g.S.Sink.taken c.args.out.now)
    (g.S.Sink.taken c.loop-span.out) (omega (arith, c.loop-span-test.false)) (c.loop-span.invariant.ran there start halts content here)

pub returns-clause-shows : goal.returns-clause-shows
returns-clause-shows g c = λ there start halts content here none.
    all_last g.D.Disk (cut c.args.script.now) c.args.spans.now c.loop-span.span-index (setting_of there c.args.steps halts) start c.loop-span.refused c.loop-span.disk (g.S.Sink.taken c.args.out.now) (g.S.Sink.taken c.loop-span.out)
    (omega (arith, c.loop-span-test.false)) (c.loop-span.invariant.shows there start halts content here none)
