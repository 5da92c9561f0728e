use Rattle.std.proofs.Common.{◌≡◌, List, get_or, sym, ◌∙◌, ap}
use Rattle.catalog_types.specs.declared.catalogue.Projection.{Projection}
use Rattle.catalog_types.specs.declared.catalogue.Table.{Table}
use Rattle.catalog_laws.proofs.Alone.{own_numbers}
use Rattle.table_store.proofs.Nexts.{rules_at, shape_at}
use Rattle.table_store.proofs.next.keeps_rules.Goals as goal

pub is_entry_after-requires-clause-numbers : goal.is_entry_after-requires-clause-numbers
is_entry_after-requires-clause-numbers c =
    let t = c.index-as_slice-table.result in
    let p = c.index-as_slice-place.result in
    let t_is : t ≡ get_or c.args.root.now.tables c.args.table t = c.index-as_slice-table.is ∙ ap (λ (ts : List Table). get_or ts c.args.table t) c.as_slice.ensures in
    let p_is : p ≡ get_or t.projections c.args.place p = c.index-as_slice-place.is ∙ ap (λ (ps : List Projection). get_or ps c.args.place p) (c.as_slice-2.ensures ∙ ap (λ (u : Table). u.projections) (sym c.index-as_slice-table.is)) in
    let (lt, below, shape) = shape_at c.args.root.now c.args.table c.args.place c.args.entry.now t p c.requires.shape t_is p_is in
    own_numbers c.args.root.now c.args.table c.args.place t p c.requires.valid lt t_is below p_is

pub returns-in-Ok : goal.returns-in-Ok
returns-in-Ok c = λ says.
    let t = c.index-as_slice-table.result in
    let p = c.index-as_slice-place.result in
    let t_is : t ≡ get_or c.args.root.now.tables c.args.table t = c.index-as_slice-table.is ∙ ap (λ (ts : List Table). get_or ts c.args.table t) c.as_slice.ensures in
    let p_is : p ≡ get_or t.projections c.args.place p = c.index-as_slice-place.is ∙ ap (λ (ps : List Projection). get_or ps c.args.place p) (c.as_slice-2.ensures ∙ ap (λ (u : Table). u.projections) (sym c.index-as_slice-table.is)) in
    let (lt, below, shape) = shape_at c.args.root.now c.args.table c.args.place c.args.entry.now t p c.requires.shape t_is p_is in
    rules_at c.args.root.now c.args.last c.args.next c.args.table c.args.place c.args.entry.now t p lt t_is below p_is (c.in-Ok.ensures says)
