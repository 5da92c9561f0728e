use Rattle.alike_steps.proofs.Stepped.{HaveOneMeaning, jobs_alike, steps_alike, unrefused_alike}
use Rattle.alike_steps.proofs.laws.alike_states_step_alike.Goals as goal

pub returns : goal.returns
returns c =
    let one : HaveOneMeaning = record { cause = c.a_query_has_one_text.ensures.refused; text = c.a_query_has_one_text.ensures.printed; settings = c.settings_see_a_bag.ensures.refusal } in
    record { steps = steps_alike c.one_reading.ensures one; jobs = jobs_alike c.one_reading.ensures; unrefused = unrefused_alike c.one_reading.ensures one }
