use Rattle.wanted_rows.specs.Wanted.{need_in}
use Rattle.proj_store.proofs.store.deletes.pick_all.Goals as goal

pub returns-in-Ok-pick-clause-picked : goal.returns-in-Ok-pick-clause-picked
returns-in-Ok-pick-clause-picked g c = record { mid = need_in c.pick_each.new.wants; containers = c.in-Ok.ensures.found; unsaved = c.in-Ok-pick.ensures }
