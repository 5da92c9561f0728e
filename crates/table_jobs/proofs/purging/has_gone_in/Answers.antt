use Rattle.std.proofs.Common.{sym}
use Rattle.std.proofs.lemmas.Bool.{ltb-true, ltb-false}
use Rattle.table_jobs.proofs.Gone.{no_place, whole_in}
use Rattle.table_jobs.proofs.purging.has_gone_in.Goals as goal

pub returns-in-Some : goal.returns-in-Some
returns-in-Some c = whole_in c.args.mark c.args.place c.args.projections.now c.in-Some.p.now c.has_gone.result (ltb-true _ _ (sym c.in-Some.ensures.lookup.0)) c.in-Some.ensures.lookup.1 c.has_gone.ensures

pub returns-in-None : goal.returns-in-None
returns-in-None c = no_place c.args.mark c.args.place c.args.projections.now (ltb-false _ _ (sym c.in-None.ensures.lookup.0))
