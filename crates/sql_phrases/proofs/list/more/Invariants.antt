use Rattle.std.proofs.Common.{◌≡◌, [], ◌∷◌, length}
use Rattle.sql_words.specs.declared.token.Sign.{Sign}
use Rattle.sql_phrases.specs.Readings.{joined, many}
use Rattle.sql_phrases.specs.Classes.{is_sign}
use Rattle.sql_phrases.specs.Readers.{glyph}
use Rattle.sql_phrases.proofs.list.more.Given as goal

abbrev pub invariant-loop-alloc : goal.invariant-loop-alloc
invariant-loop-alloc g l = joined l.found.items (many (is_sign Sign.Comma) (glyph Sign.Comma g.S.Spelled.reads) l.tokens) ≡ joined (l.fn.first ∷ []) (many (is_sign Sign.Comma) (glyph Sign.Comma g.S.Spelled.reads) l.fn.tokens)

abbrev pub decreases-loop-alloc : goal.decreases-loop-alloc
decreases-loop-alloc g l = length l.tokens
