use Rattle.std.proofs.Common.{◌∙◌, ◌++◌, ◌*◌, List, ap}
use Rattle.col_value.specs.declared.row.Asked.{Asked}
use Rattle.col_value.specs.declared.row.Stamped.{Stamped}
use Rattle.container_blocks.specs.Blocks.{rows_in}
use Rattle.del_vector.specs.Marks.{epoch_at}
use Rattle.stored_rows.specs.Held.{stamped_from}
use Rattle.audit_model.specs.Rows.{judged_in}
use Rattle.audit_rows.proofs.Joined.{judged_block}
use Rattle.audit_rows.proofs.collecting.add_loaded.Goals as goal

pub returns-in-Ok-add_block-clause-found : goal.returns-in-Ok-add_block-clause-found
returns-in-Ok-add_block-clause-found g c = λ of m told rows holding.
    c.in-Ok-add_block.ensures
    ∙ ap (λ (xs : List Asked). c.args.out.now.items ++ judged_in c.args.epoch c.args.mark (stamped_from (1024 * c.args.k) (epoch_at c.args.opened.now.vector.marks) xs)) (c.in-Ok.ensures.found of m told rows holding)
    ∙ ap (λ (xs : List Stamped). c.args.out.now.items ++ xs) (judged_block c.args.columns.now c.args.epoch c.args.mark (1024 * c.args.k) (epoch_at c.args.opened.now.vector.marks) (rows_in c.args.k rows))
