use Rattle.col_disk.proofs.Moving.{moved_none}
use Rattle.wanted_rows.specs.Wanted.{need_in}
use Rattle.proj_store.proofs.store.deletes.find_marks.Goals as goal

pub returns-in-Err-clause-moved : goal.returns-in-Err-clause-moved
returns-in-Err-clause-moved g c = moved_none g.D.Disk c.args.disk.now

pub returns-in-Ok-pick_all-clause-found : goal.returns-in-Ok-pick_all-clause-found
returns-in-Ok-pick_all-clause-found g c = record { need = need_in c.in-Ok.wants; left = need_in c.pick_all.new.wants; starts = c.in-Ok.ensures; picks = c.in-Ok-pick_all.ensures.picked }
