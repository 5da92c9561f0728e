use Rattle.word_laws.proofs.Cuts.{texts_stay, ends_cut, last_end}
use Rattle.word_laws.proofs.laws.a_semicolon_ends_one_statement.Goals as goal

pub returns : goal.returns
returns c = record { stay = texts_stay; cuts = ends_cut; last = last_end }
