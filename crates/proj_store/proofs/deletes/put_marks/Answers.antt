use Rattle.std.proofs.Common.{◌∙◌, refl, get_or}
use Rattle.std.specs.Prelude.{None}
use Rattle.proj_store.proofs.Deleted.{put_more, put_none}
use Rattle.proj_store.proofs.deletes.put_marks.Goals as goal

pub loop-mark-init : goal.loop-mark-init
loop-mark-init c = record { long = refl; deleted = λ i. put_none (get_or c.args.deletes.now i None) }

pub loop-mark-preserved : goal.loop-mark-preserved
loop-mark-preserved c = record {
  long = c.put_mark.ensures.long ∙ c.loop-mark.invariant.long;
  deleted = λ i. put_more c.args.deletes.now c.loop-mark.deletes c.put_mark.new.deletes c.args.marks.now c.loop-mark.mark-index i _ c.loop-mark-test.true (c.loop-mark.invariant.deleted i) (c.put_mark.ensures.deleted i);
}
