use Rattle.std.proofs.Common.{◌≡◌, sym, ap, ◌∙◌, subst, List, ◌++◌}
use Rattle.std.specs.List.{flat_map}
use Rattle.std.specs.Result.{OnOk}
use Rattle.sql_tree.specs.declared.tree.Tree.{Tree}
use Rattle.sql_bound.specs.declared.expr.Expr.{Expr}
use Rattle.sql_binding.specs.Conjuncts.{members}
use Rattle.statement_binder.specs.Scopes.{scope_of}
use Rattle.statement_binder.proofs.Splitting.{members_of_and, members_alone}
use Rattle.statement_binder.proofs.keep.+members.Goals as goal

pub push_members-returns-in-And : goal.push_members-returns-in-And
push_members-returns-in-And t c =
    let s = scope_of c.args.scope in
    subst (λ (ms : List Expr). OnOk c.push_each.result (c.push_each.new.out.items ≡ c.args.out.now.items ++ ms))
    (ap (λ (ts : List Tree). flat_map (members s) ts) c.as_slice.ensures ∙ (sym (members_of_and s c.in-And.parts) ∙ ap (members s) (sym c.in-And.is)))
    c.push_each.ensures

pub push_members-returns-in_default : goal.push_members-returns-in_default
push_members-returns-in_default t c =
    subst (λ (ms : List Expr). OnOk c.push_one.result (c.push_one.new.out.items ≡ c.args.out.now.items ++ ms))
    (sym (members_alone (scope_of c.args.scope) c.args.tree.now c.in_default.not-And))
    c.push_one.ensures
