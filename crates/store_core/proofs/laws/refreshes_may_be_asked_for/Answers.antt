use Rattle.store_core.proofs.Stepping.{asked_stands}
use Rattle.store_core.proofs.laws.refreshes_may_be_asked_for.Goals as goal

pub returns : goal.returns
returns g c = λ disk r state here. asked_stands g.D.Disk r disk state here (c.refreshed_states_are_sound.ensures.started state here.sound)
