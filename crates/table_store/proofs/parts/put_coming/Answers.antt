use Rattle.std.proofs.Common.{◌<◌, true, length, set, sym, ◌∙◌, ap, arith}
use Rattle.table_store.specs.Changing.{with_coming}
use Rattle.table_store.proofs.Moved.{change_set, set_again}
use Rattle.table_store.proofs.Taking.{change_out}
use Rattle.table_store.proofs.parts.put_coming.Goals as goal

pub returns-then-place-parts : goal.returns-then-place-parts
returns-then-place-parts c =
    let xs = c.args.parts.now in
    let i = c.args.place in
    let f = with_coming true c.args.rows.items in
    let lt : i < length xs = omega (arith, c.if-place-parts.true) in
    set_again xs i c.replace-part.new.dest c.with_coming.result ∙ ap (set xs i) (c.with_coming.ensures ∙ ap f (c.replace-part.ensures.value ∙ sym c.index-parts-place.is)) ∙ sym (change_set i f xs c.index-parts-place.result lt c.index-parts-place.is)

pub returns-else-place-parts : goal.returns-else-place-parts
returns-else-place-parts c = sym (change_out c.args.place (with_coming true c.args.rows.items) c.args.parts.now (omega (arith, c.if-place-parts.false)))
