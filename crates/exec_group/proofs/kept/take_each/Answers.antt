use Rattle.std.proofs.Common.{◌≡◌, ℕ, ◌<◌, add-one, get_or, length, sym, ap, ◌∙◌, arith, rules, take}
use Rattle.exec_group.specs.Accumulators.{argument_in}
use Rattle.exec_group.specs.Columns.{put_at, put_each, row_of}
use Rattle.exec_group.proofs.Together.{put_next}
use Rattle.exec_group.proofs.kept.take_each.Goals as goal

pub take_place_at-requires-clause-row : goal.take_place_at-requires-clause-row
take_place_at-requires-clause-row c = c.requires.rows c.loop-i.i 0 c.loop-i-test.true

pub loop-i-preserved : goal.loop-i-preserved
loop-i-preserved c =
    let f = λ (p : ℕ). argument_in c.args.a.now.arg (row_of c.args.columns.now p) in
    let groups = c.args.groups.now in
    let places = c.args.places.now in
    let column = c.args.list.now.items in
    let i = c.loop-i.i in
    let inside : i < length groups = omega (arith, c.loop-i-test.true, c.requires.long) in
    let after : c.take_place_at.new.list.items ≡ put_at (put_each f (take i groups) (take i places) column) (get_or groups i 0) (f (get_or places i 0)) = search rules in
    after ∙ put_next f groups places column i 0 inside c.loop-i-test.true ∙ ap (λ n. put_each f (take n groups) (take n places) column) (sym (add-one i))
