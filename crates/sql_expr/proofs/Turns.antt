-- Each turn of a chain takes something.
use Rattle.std.proofs.Common.{◌≡◌, ℕ, ◌<◌, Bool, List, length}
use Rattle.sql_words.specs.Symbols.{Symbol}
use Rattle.sql_tree.specs.declared.part.Addend.{Addend}
use Rattle.sql_tree.specs.declared.part.Part.{Part}
use Rattle.sql_words.specs.declared.token.Key.{Key}
use Rattle.sql_words.specs.declared.token.Sign.{Sign}
use Rattle.sql_phrases.specs.Readings.{Read}
use Rattle.sql_phrases.specs.Readers.{signed, base}
use Rattle.sql_phrases.proofs.Goods.{good_key, good_sign, good_shortens}
use Rattle.sql_phrases.proofs.GoodExpressions.{good_unary, good_signed, good_sum, good_negation, good_conjunction, good_base}
use Rattle.sql_expr.specs.declared.level.Level.{Level}
use Rattle.sql_expr.specs.Levels.{next_part}

pub part_shortens : (level : Level) (g : Bool) (d : ℕ) (ts : List Symbol) (v : Part) (rest : List Symbol) → next_part level (base g d) ts ≡ Read.Took v rest → length rest < length ts
part_shortens Level.Factors g d = good_shortens (good_sign Sign.Star (good_unary (good_base g d)))
part_shortens Level.Choices g d = good_shortens (good_sign Sign.Comma (good_sum (good_base g d)))
part_shortens Level.Conjuncts g d = good_shortens (good_key Key.And (good_negation (good_base g d)))
part_shortens Level.Disjuncts g d = good_shortens (good_key Key.Or (good_conjunction (good_base g d)))

pub signed_shortens : (g : Bool) (d : ℕ) (ts : List Symbol) (v : Addend) (rest : List Symbol) → signed (base g d) ts ≡ Read.Took v rest → length rest < length ts
signed_shortens g d = good_shortens (good_signed (good_base g d))
