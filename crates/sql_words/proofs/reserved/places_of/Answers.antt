use Rattle.sql_words.proofs.Letters.{starts_in_order, starts_within}
use Rattle.sql_words.proofs.reserved.places_of.Goals as goal

pub returns-clause-order : goal.returns-clause-order
returns-clause-order c = starts_in_order c.args.letter c.requires

pub returns-clause-within : goal.returns-clause-within
returns-clause-within c = starts_within c.args.letter c.requires
