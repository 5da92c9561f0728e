use Rattle.std.proofs.Common.{◌++◌, ◌∙◌, List, ap, map, subst}
use Rattle.col_value.specs.declared.row.Asked.{Asked}
use Rattle.col_value.specs.declared.value.Value.{Value}
use Rattle.store_query.specs.Lessening.{cleared, IsLess}
use Rattle.store_query.proofs.sources.with_changes.Goals as goal

pub returns-clause-changed : goal.returns-clause-changed
returns-clause-changed c =
    let less = c.in_ok-rows.rows.items in (
      less,
      subst (λ (ds : List Asked). IsLess (map (λ a. cleared c.args.places.now a.row) ds) c.args.rows.items less) c.deletes_of-deletes.ensures c.in_ok-rows.ensures.less,
      c.in_ok-add_rows.ensures.rows ∙ ap (λ (more : List (List Value)). less ++ more) c.pending_of.ensures.rows,
    )
