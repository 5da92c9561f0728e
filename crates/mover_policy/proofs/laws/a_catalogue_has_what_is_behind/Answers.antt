use Rattle.mover_policy.proofs.Shapes.{behind_are}
use Rattle.mover_policy.proofs.laws.a_catalogue_has_what_is_behind.Goals as goal

pub returns : goal.returns
returns c = behind_are
