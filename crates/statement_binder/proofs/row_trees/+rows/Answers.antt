use Rattle.std.proofs.Common.{ap, ◌∙◌, ◌++◌, [], ◌∷◌}
use Rattle.sql_tree.specs.declared.tree.Term.{Term}
use Rattle.sql_tree.specs.declared.tree.Tree.{Tree}
use Rattle.sql_bound.specs.declared.expr.BoundTerm.{BoundTerm}
use Rattle.sql_bound.specs.declared.expr.Expr.{Expr}
use Rattle.sql_binding.specs.Trees.{bound, bound_term}
use Rattle.statement_binder.specs.Scopes.{scope_of}
use Rattle.statement_binder.proofs.Growing.{row_more}
use Rattle.statement_binder.proofs.row_trees.+rows.Goals as goal

pub bind_rows-loop-tree-preserved : goal.bind_rows-loop-tree-preserved
bind_rows-loop-tree-preserved t c =
    let s = scope_of c.args.scope in
    c.in_ok-push.ensures.items
    ∙ (ap (λ (v : Expr). c.loop-tree.out.items ++ (v ∷ [])) c.in_ok-bind_row.ensures
    ∙ row_more Tree Expr (bound s) c.args.trees.now c.loop-tree.tree-index c.tree-item.result c.loop-tree.out.items c.loop-tree-test.true c.tree-item.is c.loop-tree.invariant)

pub term_rows-loop-term-preserved : goal.term_rows-loop-term-preserved
term_rows-loop-term-preserved t c =
    let s = scope_of c.args.scope in
    c.in_ok-push.ensures.items
    ∙ (ap (λ (v : BoundTerm). c.loop-term.out.items ++ (v ∷ [])) c.in_ok-term_row.ensures
    ∙ row_more Term BoundTerm (bound_term s) c.args.terms.now c.loop-term.term-index c.term-item.result c.loop-term.out.items c.loop-term-test.true c.term-item.is c.loop-term.invariant)
