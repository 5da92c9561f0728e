use Rattle.col_disk.proofs.Moving.{moved_none}
use Rattle.ros_container.specs.Encodings.{written_of}
use Rattle.wanted_rows.specs.Wanted.{need_in}
use Rattle.proj_store.specs.Loaded.{beside_of}
use Rattle.proj_store.proofs.Passed.{passed_picks}
use Rattle.proj_store.proofs.picks.pick_in.Goals as goal

pub returns-else-may_have_epoch_between-clause-found : goal.returns-else-may_have_epoch_between-clause-found
returns-else-may_have_epoch_between-clause-found g c = λ m told.
    passed_picks m (written_of c.args.entry.now) c.args.container.now (beside_of c.args.kept.now) c.no_places.result (need_in c.args.wants.now) c.no_places.ensures
    (c.may_have_epoch_between.ensures c.if-may_have_epoch_between.false)

pub returns-else-may_have_epoch_between-clause-moved : goal.returns-else-may_have_epoch_between-clause-moved
returns-else-may_have_epoch_between-clause-moved g c = moved_none g.D.Disk c.args.disk.now
