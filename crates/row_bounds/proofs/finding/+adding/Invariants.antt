use Rattle.std.proofs.Common.{◌≡◌, ◌<◌, ◌+◌, true, List, Some, take}
use Rattle.std.specs.Prelude.{Contains}
use Rattle.std.specs.List.{All}
use Rattle.col_value.specs.declared.value.Value.{Value}
use Rattle.sql_bound.specs.Outputs.{is_kept}
use Rattle.row_bounds.specs.Bounds.{within}
use Rattle.row_bounds.specs.Setting.{set_bound}
use Rattle.row_bounds.specs.declared.bound.Bound.{Bound}
use Rattle.sql_bound.specs.declared.expr.Expr.{Expr}
use Rattle.row_bounds.proofs.Hulls.{Shares}
use Rattle.row_bounds.proofs.finding.+adding.Given as goal

abbrev pub invariant-add_all-loop-part : goal.invariant-add_all-loop-part
invariant-add_all-loop-part l = record {
  own : All (λ b. b.column < l.columns) l.out.items;
  kept : (row : List Value) → is_kept l.parts row ≡ true → within l.fn.out.items row ≡ true → within l.out.items row ≡ true;
  stays : (b : Bound) → Contains l.fn.out.items b → Contains l.out.items b;
  set : (e : Expr) (b : Bound) → Contains (take l.part-index l.parts) e → set_bound e ≡ Some b → b.column < l.columns → Contains l.out.items b;
}

abbrev pub invariant-add_some-loop-part : goal.invariant-add_some-loop-part
invariant-add_some-loop-part l = All (λ b. b.column < l.columns) l.shared.items × Shares (take (l.part-index + 1) l.parts) l.shared.items
