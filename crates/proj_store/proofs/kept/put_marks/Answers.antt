use Rattle.std.proofs.Common.{◌∙◌}
use Rattle.proj_store.proofs.Epochs.{put_more}
use Rattle.proj_store.proofs.kept.put_marks.Goals as goal

pub loop-mark-preserved : goal.loop-mark-preserved
loop-mark-preserved c = record {
  rows = c.put_mark.ensures.rows ∙ c.loop-mark.invariant.rows;
  long = c.put_mark.ensures.long ∙ c.loop-mark.invariant.long;
  deleted = λ i. put_more c.args.rows.now c.loop-mark.rows c.put_mark.new.rows c.args.marks.now c.loop-mark.mark-index i _ c.loop-mark-test.true (c.loop-mark.invariant.deleted i) (c.put_mark.ensures.deleted i);
}
