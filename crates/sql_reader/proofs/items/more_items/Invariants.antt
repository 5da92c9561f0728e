use Rattle.std.proofs.Common.{◌≡◌, [], ◌∷◌, length}
use Rattle.sql_words.specs.declared.token.Sign.{Sign}
use Rattle.sql_tree.specs.declared.query.ListMode.{ListMode}
use Rattle.sql_tree.specs.Modes.{after_item}
use Rattle.sql_phrases.specs.Readings.{joined, turns}
use Rattle.sql_phrases.specs.Classes.{is_sign}
use Rattle.sql_phrases.specs.Readers.{next_item}
use Rattle.sql_reader.proofs.items.more_items.Given as goal

abbrev pub invariant-loop-alloc : goal.invariant-loop-alloc
invariant-loop-alloc l = joined l.found.items (turns (is_sign Sign.Comma) next_item after_item l.mode l.tokens) ≡ joined (l.fn.first ∷ []) (turns (is_sign Sign.Comma) next_item after_item (after_item ListMode.Free l.fn.first) l.fn.tokens)

abbrev pub decreases-loop-alloc : goal.decreases-loop-alloc
decreases-loop-alloc l = length l.tokens
