use Rattle.alike_steps.proofs.Ran.{runs_through, texts_through}
use Rattle.alike_steps.proofs.laws.alike_runs_go_through.Goals as goal

pub returns : goal.returns
returns c =
    let texts = texts_through c.alike_states_step_alike.ensures.unrefused c.steps_keep_states_sound.ensures in
    record { texts = texts; runs = runs_through texts }
