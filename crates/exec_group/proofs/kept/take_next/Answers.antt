use Rattle.std.proofs.Common.{◌≡◌, get_or, length, min, set, sym, take, ap, ◌∙◌, rules}
use Rattle.std.proofs.lemmas.List.{length-take}
use Rattle.std.proofs.lemmas.List.Elements.{All-take}
use Rattle.col_value.specs.Order.{IsRow}
use Rattle.exec_group.specs.Columns.{row_of, taken_at}
use Rattle.exec_group.specs.declared.accumulator.Accumulator.TheVariants.{TooGreat}
use Rattle.exec_group.proofs.Together.{run_put}
use Rattle.exec_group.proofs.kept.take_next.Goals as goal

pub take_run_at-requires-clause-rows : goal.take_run_at-requires-clause-rows
take_run_at-requires-clause-rows c = All-take (λ i. IsRow (row_of c.args.columns.now i)) c.same_length-n.result c.args.places.now c.requires.rows

pub returns-then-n-ge-MANY-clause-taken : goal.returns-then-n-ge-MANY-clause-taken
returns-then-n-ge-MANY-clause-taken c =
    let n = c.same_length-n.result in
    let g = get_or c.args.groups.now 0 0 in
    let groups = take n c.args.groups.now in
    let places = take n c.args.places.now in
    let column = c.args.list.now.items in
    let long : length groups ≡ length places = length-take n c.args.groups.now ∙ ap (min n) c.requires.long ∙ sym (length-take n c.args.places.now) in
    let after : c.take_run_at.new.list.items ≡ set column g (taken_at c.args.columns.now c.args.a.now places (get_or column g TooGreat)) = search rules in
    after ∙ run_put c.args.columns.now c.args.a.now g groups places column long c.same_length-n.ensures.same
