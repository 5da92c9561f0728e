use Rattle.std.proofs.Common.{ap, ap₂, ◌∙◌, ℕ, ◌+◌, ◌++◌, [], ◌∷◌, List, length, drop, arith}
use Rattle.sql_bound.specs.declared.expr.Expr.{Expr}
use Rattle.sql_bound.specs.declared.query.Aggregate.{Aggregate}
use Rattle.sql_binding.specs.Trees.{all_aggs, groups_of, items_behind, windows_in}
use Rattle.statement_binder.specs.Scopes.{scope_of}
use Rattle.statement_binder.proofs.ItemLists.{aggs_behind, group_behind}
use Rattle.statement_binder.proofs.items.item_groups.Goals as goal

pub loop-item-preserved : goal.loop-item-preserved
loop-item-preserved c =
    let s = scope_of c.args.scope in
    let xs = c.args.items.now in
    let i = c.loop-item.item-index in
    let x = c.item-item.result in
    let out = c.loop-item.out.items in
    let gs = c.loop-item.aggs.items in
    let n = c.loop-item.windows in
    let more = ap (λ (k : ℕ). n + k) c.windows_in.ensures.many in
    record {
      items = ap (λ (m : ℕ). c.push.new.self.items ++ groups_of (items_behind s m (drop (i + 1) xs)) (length c.item_group.new.aggs.items)) more
          ∙ (ap₂ (λ (os : List Expr) (made : List Aggregate). os ++ groups_of (items_behind s (n + length (windows_in x.tree)) (drop (i + 1) xs)) (length made))
          (c.in_ok-push.ensures.items ∙ ap (λ (v : Expr). out ++ (v ∷ [])) c.in_ok-item_group.ensures.tree) c.in_ok-item_group.ensures.aggs
          ∙ (group_behind s xs i x out gs n c.loop-item-test.true c.item-item.is ∙ c.loop-item.invariant.items));
      aggs = ap₂ (λ (made : List Aggregate) (m : ℕ). made ++ all_aggs (items_behind s m (drop (i + 1) xs))) c.in_ok-item_group.ensures.aggs more
          ∙ (aggs_behind s xs i x gs n c.loop-item-test.true c.item-item.is ∙ c.loop-item.invariant.aggs);
      few = let one = c.windows_in.ensures.one in let few = c.loop-item.invariant.few in omega arith;
    }
