use Rattle.std.proofs.Common.{List, map, ◌∙◌, subst}
use Rattle.sql_words.specs.declared.token.Token.{Token}
use Rattle.sql_words.specs.Symbols.{symbol_of, symbols_of}
use Rattle.sql_tree.specs.Phrases.{IsPlace}
use Rattle.sql_tree.specs.Spells.{Spells}
use Rattle.store_step.proofs.Ranges.{has_range}
use Rattle.store_step.proofs.reading.read_statement.Goals as goal

pub returns-in-Ok : goal.returns-in-Ok
returns-in-Ok c =
    let spelled : Spells (symbols_of c.args.text.now) c.in-Ok.statement =
    subst (λ (tokens : List Token). Spells (map (symbol_of c.args.text.now) tokens) c.in-Ok.statement)
    (c.as_slice.ensures.value ∙ c.in_ok-tokens.ensures.tokens) c.in-Ok.ensures.found in
    (spelled, has_range (symbols_of c.args.text.now) c.in-Ok.statement spelled)

pub returns-in-Err-Syntax : goal.returns-in-Err-Syntax
returns-in-Err-Syntax c =
    subst (λ (tokens : List Token). IsPlace Spells (map (symbol_of c.args.text.now) tokens) c.in-Err-Syntax.place)
    (c.as_slice.ensures.value ∙ c.in_ok-tokens.ensures.tokens) (rw c.in-Err-Syntax.field-0-is at c.in-Err-Syntax.ensures.refused)
