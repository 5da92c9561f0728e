use Rattle.word_laws.proofs.Closing.{scripts_close}
use Rattle.word_laws.proofs.laws.every_script_closes.Goals as goal

pub returns : goal.returns
returns c = scripts_close
