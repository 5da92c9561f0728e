use Rattle.std.proofs.Common.{◌<◌, length, set, sym, ◌∙◌, ap}
use Rattle.catalog_types.specs.declared.catalogue.Table as kept
use Rattle.table_store.specs.Shaping.{without_projection}
use Rattle.table_store.proofs.Moved.{at_place, change_set, set_again}
use Rattle.table_store.proofs.shaping.take_entry_at.Goals as goal

pub returns : goal.returns
returns c =
    let xs = c.args.tables.items in
    let i = c.args.table in
    let (t, lt, at, below) = at_place xs i (λ (u : kept.Table). c.args.place < length u.projections) c.requires in
    set_again xs i c.replace-old.new.dest c.take_entry.result
    ∙ ap (set xs i) (c.take_entry.ensures ∙ ap (without_projection c.args.place) c.replace-old.ensures.value)
    ∙ sym (change_set i (without_projection c.args.place) xs c.index_mut.result.now lt c.index_mut.ensures.value)
