use Rattle.std.proofs.Common.{◌≡◌, [], ◌∷◌, length}
use Rattle.sql_phrases.specs.Readings.{joined, many}
use Rattle.sql_phrases.specs.Classes.{in_set, source_classes}
use Rattle.sql_phrases.specs.Readers.{next_source}
use Rattle.sql_reader.proofs.sources.more_sources.Given as goal

abbrev pub invariant-loop-alloc : goal.invariant-loop-alloc
invariant-loop-alloc l = joined l.found.items (many (in_set source_classes) next_source l.tokens) ≡ joined (l.fn.first ∷ []) (many (in_set source_classes) next_source l.fn.tokens)

abbrev pub decreases-loop-alloc : goal.decreases-loop-alloc
decreases-loop-alloc l = length l.tokens
