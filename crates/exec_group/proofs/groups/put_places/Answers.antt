use Rattle.std.proofs.Common.{◌≡◌, ℕ, [], add-one, ap, sym, ◌∙◌, get_or, rules, set, take}
use Rattle.exec_group.specs.Accumulators.{accumulated, argument_in}
use Rattle.exec_group.specs.Columns.{each_put, padded, put_each, row_of}
use Rattle.exec_group.proofs.Together.{next_put}
use Rattle.exec_group.proofs.groups.put_places.Goals as goal

pub loop-i-preserved : goal.loop-i-preserved
loop-i-preserved c =
    let row = row_of c.args.columns.now in
    let groups = c.args.groups.now in
    let places = c.args.places.now in
    let aggs = c.args.aggs.now in
    let i = c.loop-i.i in
    let a = c.index-aggs-i.result in
    let before = each_put row c.args.count groups places (take i aggs) c.args.kept.now.items in
    let after : c.put_places_at.new.kept.items ≡ set before i (put_each (λ (p : ℕ). argument_in a.arg (row p)) groups places (padded c.args.count (accumulated a.kind 0 []) (get_or before i []))) = search rules in
    after ∙ next_put row c.args.count groups places aggs c.args.kept.now.items i a c.loop-i-test.true c.index-aggs-i.is
    ∙ ap (λ n. each_put row c.args.count groups places (take n aggs) c.args.kept.now.items) (sym (add-one i))
