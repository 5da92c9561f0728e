use Rattle.std.proofs.Common.{◌≡◌, ◌==◌, List, length, sym, ◌∙◌, ap}
use Rattle.std.specs.List.{list_all}
use Rattle.col_value.specs.declared.value.Value.{Value}
use Rattle.catalog_types.specs.declared.catalogue.ProjColumn.{ProjColumn}
use Rattle.catalog_types.specs.declared.catalogue.Projection.{Projection}
use Rattle.table_store.specs.Changing.{in_order}
use Rattle.table_store.proofs.Taking.{rows_whole}
use Rattle.table_store.proofs.part.can_take.Goals as goal

pub returns-then-in_order : goal.returns-then-in_order
returns-then-in_order c = λ long.
    let rows = c.args.rows.now in
    let columns : c.as_slice-columns.result.now ≡ c.args.store.now.stored.entry.columns = c.as_slice-columns.ensures ∙ ap (λ (p : Projection). p.columns) c.entry-entry.ensures.entry in
    rows_whole c.args.store.now.stored rows (ap in_order (sym columns) ∙ sym c.in_order.ensures ∙ c.if-in_order.true)
    (ap (λ (cs : List ProjColumn). list_all (λ (row : List Value). length row == length cs) rows) (sym columns) ∙ sym c.are_long.ensures ∙ long)
