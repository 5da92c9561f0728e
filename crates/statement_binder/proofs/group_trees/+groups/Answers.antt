use Rattle.std.proofs.Common.{ap, ap₂, ◌∙◌, ◌+◌, ◌++◌, [], ◌∷◌, List, length, drop, map}
use Rattle.sql_tree.specs.declared.tree.Term.{Term}
use Rattle.sql_tree.specs.declared.tree.Tree.{Tree}
use Rattle.sql_bound.specs.declared.expr.BoundTerm.{BoundTerm}
use Rattle.sql_bound.specs.declared.expr.Expr.{Expr}
use Rattle.sql_bound.specs.declared.query.Aggregate.{Aggregate}
use Rattle.sql_binding.specs.Trees.{bound, bound_term, groups_of, all_aggs}
use Rattle.statement_binder.specs.Scopes.{scope_of}
use Rattle.statement_binder.proofs.Growing.{group_more, aggs_more}
use Rattle.statement_binder.proofs.group_trees.+groups.Goals as goal

pub bind_groups-loop-tree-preserved : goal.bind_groups-loop-tree-preserved
bind_groups-loop-tree-preserved t c =
    let s = scope_of c.args.scope in
    let f = bound s in
    let xs = c.args.trees.now in
    let i = c.loop-tree.tree-index in
    let x = c.tree-item.result in
    let out = c.loop-tree.out.items in
    let gs = c.loop-tree.aggs.items in
    record {
      trees = ap₂ (λ (os : List Expr) (more : List Aggregate). os ++ groups_of (map f (drop (i + 1) xs)) (length more))
          (c.in_ok-push.ensures.items ∙ ap (λ (v : Expr). out ++ (v ∷ [])) c.in_ok-bind_group.ensures.tree) c.in_ok-bind_group.ensures.aggs
          ∙ (group_more Tree Expr f xs i x out gs c.loop-tree-test.true c.tree-item.is ∙ c.loop-tree.invariant.trees);
      aggs = ap (λ (more : List Aggregate). more ++ all_aggs (map f (drop (i + 1) xs))) c.in_ok-bind_group.ensures.aggs
          ∙ (aggs_more Tree Expr f xs i x gs c.loop-tree-test.true c.tree-item.is ∙ c.loop-tree.invariant.aggs);
    }

pub term_groups-loop-term-preserved : goal.term_groups-loop-term-preserved
term_groups-loop-term-preserved t c =
    let s = scope_of c.args.scope in
    let f = bound_term s in
    let xs = c.args.terms.now in
    let i = c.loop-term.term-index in
    let x = c.term-item.result in
    let out = c.loop-term.out.items in
    let gs = c.loop-term.aggs.items in
    record {
      trees = ap₂ (λ (os : List BoundTerm) (more : List Aggregate). os ++ groups_of (map f (drop (i + 1) xs)) (length more))
          (c.in_ok-push.ensures.items ∙ ap (λ (v : BoundTerm). out ++ (v ∷ [])) c.in_ok-term_group.ensures.term) c.in_ok-term_group.ensures.aggs
          ∙ (group_more Term BoundTerm f xs i x out gs c.loop-term-test.true c.term-item.is ∙ c.loop-term.invariant.trees);
      aggs = ap (λ (more : List Aggregate). more ++ all_aggs (map f (drop (i + 1) xs))) c.in_ok-term_group.ensures.aggs
          ∙ (aggs_more Term BoundTerm f xs i x gs c.loop-term-test.true c.term-item.is ∙ c.loop-term.invariant.aggs);
    }
