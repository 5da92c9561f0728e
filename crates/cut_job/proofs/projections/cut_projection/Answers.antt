use Rattle.cut_job.proofs.Entries.{entry_cut, entry_listed, entry_loads}
use Rattle.cut_job.proofs.projections.cut_projection.Goals as goal

pub returns-in-Ok-with_containers-clause-cut : goal.returns-in-Ok-with_containers-clause-cut
returns-in-Ok-with_containers-clause-cut g c =
    entry_cut c.args.epoch c.lge_after.result c.args.p.now c.in-Ok-with_containers.entry c.in-Ok.done.containers.items _ _ c.in-Ok.ensures.count c.lge_after.ensures c.in-Ok-with_containers.ensures c.in-Ok.ensures.cut c.in-Ok.ensures.stale

pub returns-in-Ok-with_containers-clause-below : goal.returns-in-Ok-with_containers-clause-below
returns-in-Ok-with_containers-clause-below g c = entry_listed c.in-Ok.done.next c.lge_after.result c.args.p.now c.in-Ok-with_containers.entry c.in-Ok.done.containers.items c.in-Ok-with_containers.ensures c.in-Ok.ensures.below

pub returns-in-Ok-with_containers-clause-loadable : goal.returns-in-Ok-with_containers-clause-loadable
returns-in-Ok-with_containers-clause-loadable g c =
    let n = c.in-Ok.ensures.next in
    entry_loads c.in-Ok.done.next c.lge_after.result c.args.p.now c.in-Ok-with_containers.entry c.in-Ok.done.containers.items n.1 c.in-Ok-with_containers.ensures c.in-Ok.ensures.below c.requires.loadable
