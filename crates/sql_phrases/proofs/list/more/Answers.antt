-- A turn takes one more, or the loop ends with what was taken so far.
use Rattle.std.proofs.Common.{◌∙◌, sym, ap}
use Rattle.sql_words.specs.declared.token.Sign.{Sign}
use Rattle.sql_phrases.specs.Readings.{Read, joined, many}
use Rattle.sql_phrases.specs.Classes.{is_sign}
use Rattle.sql_phrases.specs.Readers.{glyph}
use Rattle.sql_phrases.proofs.Rolling.{mark_shortens, roll_goes, roll_ends, roll_err}
use Rattle.sql_phrases.proofs.list.more.Goals as goal

pub returns-in-Err : goal.returns-in-Err
returns-in-Err g c = roll_err (is_sign Sign.Comma) (glyph Sign.Comma g.S.Spelled.reads) (mark_shortens (is_sign Sign.Comma) g.S.Spelled.reads g.met.S.Spelled.shortens) c.loop-alloc.found.items c.loop-alloc.tokens c.next.new.tokens _ c.in-Err.stop c.loop-alloc.invariant (sym c.begins_sign.ensures ∙ c.loop-alloc-test.true) c.in-Err.ensures

pub loop-alloc-smaller : goal.loop-alloc-smaller
loop-alloc-smaller g c = mark_shortens (is_sign Sign.Comma) g.S.Spelled.reads g.met.S.Spelled.shortens c.loop-alloc.tokens c.in-Ok.value c.next.new.tokens c.in-Ok.ensures

pub loop-alloc-preserved : goal.loop-alloc-preserved
loop-alloc-preserved g c = ap (λ z. joined z (many (is_sign Sign.Comma) (glyph Sign.Comma g.S.Spelled.reads) c.next.new.tokens)) c.in_ok-push-2.ensures.items ∙ roll_goes (is_sign Sign.Comma) (glyph Sign.Comma g.S.Spelled.reads) (mark_shortens (is_sign Sign.Comma) g.S.Spelled.reads g.met.S.Spelled.shortens) c.loop-alloc.found.items c.loop-alloc.tokens c.in-Ok.value c.next.new.tokens _ c.loop-alloc.invariant (sym c.begins_sign.ensures ∙ c.loop-alloc-test.true) c.in-Ok.ensures

pub returns : goal.returns
returns g c = roll_ends (is_sign Sign.Comma) (glyph Sign.Comma g.S.Spelled.reads) (mark_shortens (is_sign Sign.Comma) g.S.Spelled.reads g.met.S.Spelled.shortens) c.loop-alloc.found.items c.loop-alloc.tokens _ c.loop-alloc.invariant (sym c.begins_sign.ensures ∙ c.loop-alloc-test.false) ∙ ap (λ z. Read.Took z c.loop-alloc.tokens) (sym c.new.ensures)
