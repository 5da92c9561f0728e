use Rattle.run_words.proofs.DirTaken.{dir_taken}
use Rattle.run_words.proofs.laws.dir_is_the_one_that_clap_takes.Goals as goal

pub returns : goal.returns
returns c = dir_taken
