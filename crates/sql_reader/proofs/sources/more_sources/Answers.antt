-- A turn takes one more source, or the loop ends with what was taken so far.
use Rattle.std.proofs.Common.{◌∙◌, sym, ap}
use Rattle.sql_phrases.specs.Readings.{Read, Shortens, joined, many}
use Rattle.sql_phrases.specs.Classes.{in_set, source_classes}
use Rattle.sql_phrases.specs.Readers.{next_source}
use Rattle.sql_phrases.proofs.Goods.{good_shortens}
use Rattle.sql_phrases.proofs.GoodQueries.{good_next_source}
use Rattle.sql_phrases.proofs.Rolling.{roll_goes, roll_ends, roll_err}
use Rattle.sql_reader.proofs.sources.more_sources.Goals as goal

shorter : Shortens next_source
shorter = good_shortens good_next_source

pub returns-in-Err : goal.returns-in-Err
returns-in-Err c = roll_err (in_set source_classes) next_source shorter c.loop-alloc.found.items c.loop-alloc.tokens c.next_source.new.tokens _ c.in-Err.stop c.loop-alloc.invariant (sym c.begins_source.ensures ∙ c.loop-alloc-test.true) c.in-Err.ensures

pub loop-alloc-smaller : goal.loop-alloc-smaller
loop-alloc-smaller c = shorter c.loop-alloc.tokens c.in-Ok.source c.next_source.new.tokens c.in-Ok.ensures

pub loop-alloc-preserved : goal.loop-alloc-preserved
loop-alloc-preserved c = ap (λ z. joined z (many (in_set source_classes) next_source c.next_source.new.tokens)) c.in_ok-push-2.ensures.items ∙ roll_goes (in_set source_classes) next_source shorter c.loop-alloc.found.items c.loop-alloc.tokens c.in-Ok.source c.next_source.new.tokens _ c.loop-alloc.invariant (sym c.begins_source.ensures ∙ c.loop-alloc-test.true) c.in-Ok.ensures

pub returns : goal.returns
returns c = roll_ends (in_set source_classes) next_source shorter c.loop-alloc.found.items c.loop-alloc.tokens _ c.loop-alloc.invariant (sym c.begins_source.ensures ∙ c.loop-alloc-test.false) ∙ ap (λ z. Read.Took z c.loop-alloc.tokens) (sym c.new.ensures)
