use Rattle.std.proofs.Common.{◌∙◌}
use Rattle.sql_words.proofs.Letters.{key_there}
use Rattle.sql_words.proofs.reserved.key_among.Goals as goal

pub returns : goal.returns
returns c = c.key_in.ensures ∙ key_there (λ e. (e.0.now, e.1)) c.args.table.now c.args.word.now c.places_of-from.result c.letter_of.result c.requires.words c.letter_of.ensures.within c.letter_of.ensures.letter c.places_of-from.ensures.places
