use Rattle.std.proofs.Common.{◌≡◌, List, ◌∷◌, [], add-one, ap, sym, ◌∙◌, get_or, rules, set, take}
use Rattle.col_value.specs.declared.value.Value.{Value}
use Rattle.exec_group.specs.Accumulators.{accumulated, argument_in}
use Rattle.exec_group.specs.Columns.{each_put, padded, put_at}
use Rattle.exec_group.proofs.Together.{next_put}
use Rattle.exec_group.proofs.groups.put_row.Goals as goal

pub loop-i-preserved : goal.loop-i-preserved
loop-i-preserved c =
    let row = c.args.row.now in
    let aggs = c.args.aggs.now in
    let i = c.loop-i.i in
    let a = c.index-aggs-i.result in
    let g = c.args.group in
    let before = each_put (λ (r : List Value). r) c.args.count (g ∷ []) (row ∷ []) (take i aggs) c.args.columns.now.items in
    let after : c.put_row_at.new.columns.items ≡ set before i (put_at (padded c.args.count (accumulated a.kind 0 []) (get_or before i [])) g (argument_in a.arg row)) = search rules in
    after ∙ next_put (λ (r : List Value). r) c.args.count (g ∷ []) (row ∷ []) aggs c.args.columns.now.items i a c.loop-i-test.true c.index-aggs-i.is
    ∙ ap (λ n. each_put (λ (r : List Value). r) c.args.count (g ∷ []) (row ∷ []) (take n aggs) c.args.columns.now.items) (sym (add-one i))
