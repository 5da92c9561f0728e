use Rattle.std.proofs.Common.{set, sym, ◌∙◌, ap}
use Rattle.table_store.specs.Widening.{wide_table}
use Rattle.table_store.proofs.Moved.{change_set, set_again}
use Rattle.table_store.proofs.widening.widen_table_at.Goals as goal

pub returns : goal.returns
returns c =
    let xs = c.args.tables.items in
    let i = c.args.table in
    let f = wide_table c.args.column.now c.args.default.now in
    set_again xs i c.replace-old.new.dest c.in_ok-tables.field-0
    ∙ ap (set xs i) (c.in_ok-tables.ensures ∙ ap f c.replace-old.ensures.value)
    ∙ sym (change_set i f xs c.index_mut.result.now c.requires c.index_mut.ensures.value)
