use Rattle.alike_laws.proofs.Committed.{committed_alike}
use Rattle.alike_laws.proofs.laws.alike_changes_commit_alike.Goals as goal

pub returns : goal.returns
returns c = committed_alike
