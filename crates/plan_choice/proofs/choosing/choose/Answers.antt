use Rattle.plan_choice.proofs.Chosen.{found_well, found_any}
use Rattle.plan_choice.proofs.choosing.choose.Goals as goal

pub returns-in-Some-clause-chosen : goal.returns-in-Some-clause-chosen
returns-in-Some-clause-chosen c = found_well c.args.q.now c.args.item c.args.projections.now c.in-Some.i c.in-Some.ensures.within c.in-Some.ensures.best

pub returns-in-None-clause-chosen : goal.returns-in-None-clause-chosen
returns-in-None-clause-chosen c = found_any c.args.q.now c.args.item c.args.projections.now c.narrowest-in-None.result c.in-None.ensures.best c.narrowest-in-None.ensures.best
