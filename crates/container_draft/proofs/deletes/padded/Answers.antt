use Rattle.std.proofs.Common.{rules}
use Rattle.container_draft.proofs.Joining.{padded_more}
use Rattle.container_draft.proofs.deletes.padded.Goals as goal

pub loop-place-preserved : goal.loop-place-preserved
loop-place-preserved c = record {
  room = search rules;
  deletes = padded_more c.args.dels.now c.loop-place.out.items c.push_reserved.new.self.items c.loop-place.place c.del_at.result c.loop-place.invariant.deletes c.del_at.ensures (search rules);
}
