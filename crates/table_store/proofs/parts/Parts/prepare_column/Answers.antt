use Rattle.std.proofs.Common.{◌∙◌}
use Rattle.std.proofs.lemmas.Result.{IfOk-weaker}
use Rattle.table_store.proofs.Wider.{widened_all}
use Rattle.table_store.proofs.parts.Parts.prepare_column.Goals as goal

pub returns-clause-made : goal.returns-clause-made
returns-clause-made c =
    IfOk-weaker c.prepare_columns.result _ _ (λ v all. widened_all c.args.columns.now c.args.default.now c.as_slice.result.now c.args.self.now v.items (c.as_slice.ensures.value ∙ c.self.view_is) all)
    c.prepare_columns.ensures.made
