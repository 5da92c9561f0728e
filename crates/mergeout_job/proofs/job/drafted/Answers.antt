use Rattle.std.proofs.Common.{refl}
use Rattle.col_disk.proofs.Moving.{moved_none}
use Rattle.mergeout_job.proofs.Begun.{begun, draft_begun}
use Rattle.mergeout_job.proofs.job.drafted.Goals as goal

pub returns-in-Err-clause-moved : goal.returns-in-Err-clause-moved
returns-in-Err-clause-moved g c = moved_none g.D.Disk c.args.disk.now

pub returns-in-Err-kept_places-clause-moved : goal.returns-in-Err-kept_places-clause-moved
returns-in-Err-kept_places-clause-moved g c = moved_none g.D.Disk c.args.disk.now

pub returns-in-Ok-in_order-clause-begun : goal.returns-in-Ok-in_order-clause-begun
returns-in-Ok-in_order-clause-begun g c = λ m told vectors.
    begun m c.args.p.now.stored c.args.inputs.now c.args.mark c.args.base c.in-Ok-chosen_rows.rows c.in-Ok-chosen_rows.rows c.in-Ok.dels.items c.as_slice.result.now c.in-Ok-kept_places.kept.items c.in-Ok-kept_places.kept.items c.in-Ok-in_order.places.items
    c.new.result c.requires.within c.requires.some vectors (c.in-Ok-chosen_rows.ensures.read m told) c.in-Ok.ensures c.as_slice.ensures.value c.in-Ok-kept_places.ensures refl c.in-Ok-in_order.ensures.same c.new.ensures

pub returns-in-Ok-in_order-clause-draft : goal.returns-in-Ok-in_order-clause-draft
returns-in-Ok-in_order-clause-draft g c = λ m told vectors.
    draft_begun m c.args.p.now.stored c.args.inputs.now c.args.base c.in-Ok-chosen_rows.rows c.in-Ok-chosen_rows.rows c.in-Ok-in_order.places.items c.new.result (c.in-Ok-chosen_rows.ensures.read m told) refl
    c.in-Ok-in_order.ensures.within c.new.ensures
