-- A turn takes one more item, or the loop ends with what was taken so far.
use Rattle.std.proofs.Common.{◌∙◌, [], ◌∷◌, ◌++◌, sym, ap}
use Rattle.sql_words.specs.declared.token.Sign.{Sign}
use Rattle.sql_tree.specs.declared.query.ListMode.{ListMode}
use Rattle.sql_tree.specs.Modes.{after_item}
use Rattle.sql_phrases.specs.Readings.{Read, Shortens, joined, turns}
use Rattle.sql_phrases.specs.Classes.{is_sign}
use Rattle.sql_phrases.specs.Readers.{next_item}
use Rattle.sql_phrases.proofs.Goods.{good_shortens}
use Rattle.sql_phrases.proofs.GoodQueries.{good_next_item}
use Rattle.sql_phrases.proofs.Rolling.{turns_go, turns_end, turns_err}
use Rattle.sql_reader.proofs.items.more_items.Goals as goal

shorter : (m : ListMode) → Shortens (next_item m)
shorter m = good_shortens (good_next_item m)

pub returns-in-Err : goal.returns-in-Err
returns-in-Err c = turns_err (is_sign Sign.Comma) next_item after_item shorter c.loop-alloc.mode c.loop-alloc.found.items c.loop-alloc.tokens c.next_item.new.tokens _ c.in-Err.stop c.loop-alloc.invariant (sym c.begins_sign.ensures ∙ c.loop-alloc-test.true) c.in-Err.ensures

pub loop-alloc-smaller : goal.loop-alloc-smaller
loop-alloc-smaller c = shorter c.loop-alloc.mode c.loop-alloc.tokens c.in-Ok.item c.next_item.new.tokens c.in-Ok.ensures

pub loop-alloc-preserved : goal.loop-alloc-preserved
loop-alloc-preserved c =
    ap (λ z. joined z (turns (is_sign Sign.Comma) next_item after_item c.after-mode-in-loop-alloc.result c.next_item.new.tokens)) c.in_ok-push-2.ensures.items
    ∙ ap (λ m. joined (c.loop-alloc.found.items ++ (c.in-Ok.item ∷ [])) (turns (is_sign Sign.Comma) next_item after_item m c.next_item.new.tokens)) c.after-mode-in-loop-alloc.ensures
    ∙ turns_go (is_sign Sign.Comma) next_item after_item shorter c.loop-alloc.mode c.loop-alloc.found.items c.loop-alloc.tokens c.in-Ok.item c.next_item.new.tokens _ c.loop-alloc.invariant (sym c.begins_sign.ensures ∙ c.loop-alloc-test.true) c.in-Ok.ensures

pub returns : goal.returns
returns c = turns_end (is_sign Sign.Comma) next_item after_item shorter c.loop-alloc.mode c.loop-alloc.found.items c.loop-alloc.tokens _ c.loop-alloc.invariant (sym c.begins_sign.ensures ∙ c.loop-alloc-test.false) ∙ ap (λ z. Read.Took z c.loop-alloc.tokens) (sym c.new.ensures)
