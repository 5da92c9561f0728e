use Rattle.col_disk.proofs.Moving.{moved_none}
use Rattle.refresh_job.proofs.Ended.{begun, draft_begun}
use Rattle.refresh_job.proofs.job.drafted.Goals as goal

pub returns-in-Err-clause-moved : goal.returns-in-Err-clause-moved
returns-in-Err-clause-moved g c = moved_none g.D.Disk c.args.disk.now

pub returns-in-Err-kept_places-clause-moved : goal.returns-in-Err-kept_places-clause-moved
returns-in-Err-kept_places-clause-moved g c = moved_none g.D.Disk c.args.disk.now

pub returns-in-Ok-in_order-clause-begun : goal.returns-in-Ok-in_order-clause-begun
returns-in-Ok-in_order-clause-begun g c = λ m told.
    begun m c.args.source.now.stored c.args.mark c.args.base c.args.via.now c.in-Ok-rows_on.rows c.in-Ok.dels.items c.as_slice.result.now c.in-Ok-kept_places.kept.items c.in-Ok-in_order.places.items c.new.result c.in-Ok.ensures
    c.as_slice.ensures.value (c.in-Ok-rows_on.ensures.read m told) c.in-Ok-kept_places.ensures c.in-Ok-in_order.ensures.same c.in-Ok-in_order.ensures.within c.new.ensures

pub returns-in-Ok-in_order-clause-draft : goal.returns-in-Ok-in_order-clause-draft
returns-in-Ok-in_order-clause-draft g c = λ m.
    draft_begun m c.args.shape.now c.args.via.now c.args.base c.in-Ok-rows_on.rows c.in-Ok-in_order.places.items c.new.result c.requires c.in-Ok-rows_on.ensures.wide c.in-Ok-in_order.ensures.within c.new.ensures
