use Rattle.alike_steps.proofs.Ran.{runs_alike, texts_alike}
use Rattle.alike_steps.proofs.laws.alike_runs_print_alike.Goals as goal

pub returns : goal.returns
returns c =
    let texts = texts_alike c.alike_states_step_alike.ensures.steps c.steps_keep_states_sound.ensures in
    record { texts = texts; runs = runs_alike texts }
