use Rattle.steps_exist.proofs.Stepped.{step_there}
use Rattle.steps_exist.proofs.laws.every_text_has_a_step.Goals as goal

pub returns : goal.returns
returns c = λ serves old files text sound. step_there serves old files text sound.database.names
