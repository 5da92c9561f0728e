use Rattle.mover_policy.proofs.ByName.{reached_by_name, rises_by_name}
use Rattle.mover_policy.proofs.laws.jobs_go_by_names.Goals as goal

pub returns : goal.returns
returns c = record { same = reached_by_name; rises = rises_by_name }
