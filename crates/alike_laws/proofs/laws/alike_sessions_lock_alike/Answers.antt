use Rattle.alike_laws.proofs.Refused.{commit_alike, holder_alike, joining_alike, load_alike, locked_alike}
use Rattle.alike_laws.proofs.laws.alike_sessions_lock_alike.Goals as goal

pub returns-clause-lock : goal.returns-clause-lock
returns-clause-lock c = locked_alike

pub returns-clause-limit : goal.returns-clause-limit
returns-clause-limit c = joining_alike

pub returns-clause-commit : goal.returns-clause-commit
returns-clause-commit c = commit_alike

pub returns-clause-load : goal.returns-clause-load
returns-clause-load c = load_alike

pub returns-clause-holder : goal.returns-clause-holder
returns-clause-holder c = holder_alike
