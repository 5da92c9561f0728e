use Rattle.std.proofs.Common.{◌≡◌, ◌∙◌, ℕ, sym, ap, subst, rules, arith}
use Rattle.col_value.specs.declared.wide.Wide.{Wide}
use Rattle.col_value.specs.Order.{IsValue}
use Rattle.sql_bound.specs.declared.expr.Expr.{Expr}
use Rattle.sql_bound.specs.Values.{Scope, of_row, value_of}
use Rattle.sql_binding.specs.Inserts.{narrowed}
use Rattle.expr_value.specs.Worths.{wide_of}
use Rattle.row_setting.proofs.Accepted.{set_so_far}
use Rattle.row_setting.proofs.changing.changed_row.Goals as goal

pub narrow-requires : goal.narrow-requires
narrow-requires c =
    let worth : wide_of c.value_of.result ≡ value_of (of_row c.args.row.now) c.set-item.result.1 = c.value_of.ensures ∙ ap (λ (s : Scope). value_of s c.set-item.result.1) (c.of_row-sight.ensures ∙ ap of_row c.as_slice.ensures) in
    subst (λ (w : Wide). IsValue (narrowed w)) (sym worth)
    (subst (λ (s : ℕ × Expr). IsValue (narrowed (value_of (of_row c.args.row.now) s.1))) (sym c.set-item.is) (c.requires.storable c.loop-set.set-index c.set-item.result (omega arith)))

pub loop-set-preserved : goal.loop-set-preserved
loop-set-preserved c =
    let value : c.in_ok-value.value ≡ narrowed (value_of (of_row c.args.row.now) c.set-item.result.1) = search rules in
    set_so_far c.args.sets.now c.args.row.now c.loop-set.out.items c.put.new.row.items c.loop-set.set-index c.set-item.result c.in_ok-value.value (omega arith) c.set-item.is value c.put.ensures c.loop-set.invariant
