use Rattle.steps_exist.proofs.Ran.{answer_goes_on, run_goes_on, run_there, texts_there}
use Rattle.steps_exist.proofs.laws.every_script_has_a_run.Goals as goal

pub returns : goal.returns
returns c =
    let keep = c.steps_keep_states_sound.ensures in
    record {
      texts = λ setting start texts sound. texts_there keep setting start sound texts;
      runs = λ setting start script sound. run_there keep setting start sound script;
      goes_on = λ setting start script front more printed refused mid sound split ran. run_goes_on keep setting start sound script front more printed refused mid split ran;
      answer = λ setting start script front more text printed answer refused mid answered refusal sound split ran step.
          answer_goes_on keep setting start sound script front more text printed answer refused mid answered refusal split ran step;
    }
