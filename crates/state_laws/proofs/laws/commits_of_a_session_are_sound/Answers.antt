use Rattle.state_laws.proofs.Commits.{committed_state}
use Rattle.state_laws.proofs.laws.commits_of_a_session_are_sound.Goals as goal

pub returns : goal.returns
returns c = committed_state
