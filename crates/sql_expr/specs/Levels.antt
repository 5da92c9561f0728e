-- The chains of an expression: what stands between their parts, and what the parts are.
use Rattle.std.specs.Prelude.{ℕ, Bool, true, false}
use Rattle.sql_words.specs.declared.token.Key.{Key}
use Rattle.sql_words.specs.declared.token.Sign.{Sign}
use Rattle.sql_words.specs.Symbols.{Symbol}
use Rattle.sql_tree.specs.declared.part.Part.{Part}
use Rattle.sql_tree.specs.Makers.{between}
use Rattle.sql_phrases.specs.Readings.{both, nothing}
use Rattle.sql_phrases.specs.Classes.{is_key, is_sign}
use Rattle.sql_phrases.specs.Readers.{Reads, word, glyph, unary, sum, negation, conjunction, atom, leaf}
use Rattle.sql_expr.specs.declared.level.Level.{Level}

-- one more part stands at the front
abbrev pub goes_on : Level → Symbol → Bool
goes_on Level.Factors = is_sign Sign.Star
goes_on Level.Choices = is_sign Sign.Comma
goes_on Level.Conjuncts = is_key Key.And
goes_on Level.Disjuncts = is_key Key.Or

-- one more part, behind what stands before it
abbrev pub next_part : Level → Reads Part → Reads Part
next_part Level.Factors p = glyph Sign.Star (unary p)
next_part Level.Choices p = glyph Sign.Comma (sum p)
next_part Level.Conjuncts p = word Key.And (negation p)
next_part Level.Disjuncts p = word Key.Or (conjunction p)

-- what stands where no parenthesis does, in a gexpr or in an expr
abbrev pub leaf_of : Bool → ℕ → Reads Part
leaf_of true depth = leaf depth
leaf_of false depth = atom

-- the upper bound of a BETWEEN, behind the part and the lower bound
abbrev pub upper : Reads Part → Part → Part → Reads Part
upper p x y = word Key.And (both (sum p) (λ z. nothing (between x y z)))
