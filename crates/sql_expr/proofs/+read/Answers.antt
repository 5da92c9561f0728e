-- A turn takes one more part, or the loop ends with what was taken so far.
use Rattle.std.proofs.Common.{◌∙◌, sym, ap}
use Rattle.sql_phrases.specs.Readings.{Read, joined, many}
use Rattle.sql_phrases.specs.Classes.{in_set, signed_classes}
use Rattle.sql_phrases.specs.Readers.{base, signed}
use Rattle.sql_phrases.proofs.Rolling.{roll_goes, roll_ends, roll_err}
use Rattle.sql_expr.specs.Levels.{goes_on, next_part}
use Rattle.sql_expr.proofs.Turns.{part_shortens, signed_shortens}
use Rattle.sql_expr.proofs.+read.Goals as goal

pub chains::more-returns-in-Err : goal.chains::more-returns-in-Err
chains::more-returns-in-Err t c = roll_err (goes_on c.args.level) (next_part c.args.level (base c.args.grouped c.args.depth)) (part_shortens c.args.level c.args.grouped c.args.depth) c.loop-alloc.parts.items c.loop-alloc.tokens c.next_part.new.tokens _ c.in-Err.stop c.loop-alloc.invariant (sym c.goes_on.ensures ∙ c.loop-alloc-test.true) c.in-Err.ensures

pub chains::more-loop-alloc-smaller : goal.chains::more-loop-alloc-smaller
chains::more-loop-alloc-smaller t c = part_shortens c.args.level c.args.grouped c.args.depth c.loop-alloc.tokens c.in-Ok.part c.next_part.new.tokens c.in-Ok.ensures

pub chains::more-loop-alloc-preserved : goal.chains::more-loop-alloc-preserved
chains::more-loop-alloc-preserved t c =
    ap (λ z. joined z (many (goes_on c.args.level) (next_part c.args.level (base c.args.grouped c.args.depth)) c.next_part.new.tokens)) c.in_ok-push.ensures.items
    ∙ roll_goes (goes_on c.args.level) (next_part c.args.level (base c.args.grouped c.args.depth)) (part_shortens c.args.level c.args.grouped c.args.depth) c.loop-alloc.parts.items c.loop-alloc.tokens c.in-Ok.part c.next_part.new.tokens _ c.loop-alloc.invariant (sym c.goes_on.ensures ∙ c.loop-alloc-test.true) c.in-Ok.ensures

pub chains::more-returns : goal.chains::more-returns
chains::more-returns t c = roll_ends (goes_on c.args.level) (next_part c.args.level (base c.args.grouped c.args.depth)) (part_shortens c.args.level c.args.grouped c.args.depth) c.loop-alloc.parts.items c.loop-alloc.tokens _ c.loop-alloc.invariant (sym c.goes_on.ensures ∙ c.loop-alloc-test.false) ∙ ap (λ z. Read.Took z c.loop-alloc.tokens) (sym c.new.ensures)

pub sums::addends-returns-in-Err : goal.sums::addends-returns-in-Err
sums::addends-returns-in-Err t c = roll_err (in_set signed_classes) (signed (base c.args.grouped c.args.depth)) (signed_shortens c.args.grouped c.args.depth) c.loop-alloc.addends.items c.loop-alloc.tokens c.signed.new.tokens _ c.in-Err.stop c.loop-alloc.invariant (sym c.begins_signed.ensures ∙ c.loop-alloc-test.true) c.in-Err.ensures

pub sums::addends-loop-alloc-smaller : goal.sums::addends-loop-alloc-smaller
sums::addends-loop-alloc-smaller t c = signed_shortens c.args.grouped c.args.depth c.loop-alloc.tokens c.in-Ok.addend c.signed.new.tokens c.in-Ok.ensures

pub sums::addends-loop-alloc-preserved : goal.sums::addends-loop-alloc-preserved
sums::addends-loop-alloc-preserved t c =
    ap (λ z. joined z (many (in_set signed_classes) (signed (base c.args.grouped c.args.depth)) c.signed.new.tokens)) c.in_ok-push.ensures.items
    ∙ roll_goes (in_set signed_classes) (signed (base c.args.grouped c.args.depth)) (signed_shortens c.args.grouped c.args.depth) c.loop-alloc.addends.items c.loop-alloc.tokens c.in-Ok.addend c.signed.new.tokens _ c.loop-alloc.invariant (sym c.begins_signed.ensures ∙ c.loop-alloc-test.true) c.in-Ok.ensures

pub sums::addends-returns : goal.sums::addends-returns
sums::addends-returns t c = roll_ends (in_set signed_classes) (signed (base c.args.grouped c.args.depth)) (signed_shortens c.args.grouped c.args.depth) c.loop-alloc.addends.items c.loop-alloc.tokens _ c.loop-alloc.invariant (sym c.begins_signed.ensures ∙ c.loop-alloc-test.false) ∙ ap (λ z. Read.Took z c.loop-alloc.tokens) (sym c.new.ensures)
