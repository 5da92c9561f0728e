use Rattle.db_laws.proofs.NeverFalls.{step_never_falls, run_never_falls}
use Rattle.db_laws.proofs.laws.last_good_never_falls.Goals as goal

pub returns : goal.returns
returns c = record { step = step_never_falls; run = run_never_falls }
