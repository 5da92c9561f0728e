use Rattle.std.proofs.Common.{ap, ap₂, ◌∙◌, ℕ, ◌+◌, ◌++◌, [], ◌∷◌, List, drop, arith}
use Rattle.sql_bound.specs.declared.expr.Expr.{Expr}
use Rattle.sql_binding.specs.Trees.{items_behind, rows_of}
use Rattle.statement_binder.specs.Scopes.{scope_of}
use Rattle.statement_binder.proofs.ItemLists.{row_behind}
use Rattle.statement_binder.proofs.items.item_rows.Goals as goal

pub loop-item-preserved : goal.loop-item-preserved
loop-item-preserved c =
    let s = scope_of c.args.scope in
    let xs = c.args.items.now in
    let i = c.loop-item.item-index in
    let out = c.loop-item.out.items in
    let n = c.loop-item.windows in
    record {
      items = ap₂ (λ (os : List Expr) (m : ℕ). os ++ rows_of (items_behind s m (drop (i + 1) xs)))
          (c.in_ok-push.ensures.items ∙ ap (λ (v : Expr). out ++ (v ∷ [])) c.in_ok-item_row.ensures) (ap (λ (k : ℕ). n + k) c.windows_in.ensures.many)
          ∙ (row_behind s xs i c.item-item.result out n c.loop-item-test.true c.item-item.is ∙ c.loop-item.invariant.items);
      few = let one = c.windows_in.ensures.one in let few = c.loop-item.invariant.few in omega arith;
    }
