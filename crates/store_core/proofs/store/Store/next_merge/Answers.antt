use Rattle.std.proofs.Common.{◌≡◌, ◌∙◌, map, sym, ap}
use Rattle.std.specs.Prelude.{List}
use Rattle.catalog_types.specs.declared.catalogue.Catalogue.{Catalogue}
use Rattle.catalog_types.specs.declared.catalogue.Table as kept
use Rattle.store_core.proofs.First.{entries_now, tables_at}
use Rattle.store_core.proofs.Found.{merge_four, merge_fresh}
use Rattle.store_core.proofs.store.Store.next_merge.Goals as goal

pub returns-clause-fresh : goal.returns-clause-fresh
returns-clause-fresh c =
    let s = c.self.inside.tables in
    let tables : s.catalogue.tables ≡ c.as_slice.result.now = ap (λ (x : Catalogue). x.tables) c.root.ensures.root ∙ sym c.as_slice.ensures in
    merge_fresh c.as_slice.result.now c.args.self.now.seen.stores c.next_merge.result
    (entries_now c.as_slice.result.now s c.self.inside.txns c.self.inside.current c.self.inside.mover c.args.self.now tables c.self.view_is (c.root.ensures.entries ∙ ap (λ (ts : List kept.Table). map (λ t. t.projections) ts) (sym c.as_slice.ensures))
    ∙ ap (map (λ (t : kept.Table). t.projections)) (sym (tables_at c.as_slice.result.now s c.self.inside.txns c.self.inside.current c.self.inside.mover c.args.self.now tables c.self.view_is)))
    c.next_merge.ensures

pub returns-clause-four : goal.returns-clause-four
returns-clause-four c =
    let s = c.self.inside.tables in
    let tables : s.catalogue.tables ≡ c.as_slice.result.now = ap (λ (x : Catalogue). x.tables) c.root.ensures.root ∙ sym c.as_slice.ensures in
    merge_four c.args.self.now.seen.catalogue c.as_slice.result.now c.next_merge.result (tables_at c.as_slice.result.now s c.self.inside.txns c.self.inside.current c.self.inside.mover c.args.self.now tables c.self.view_is) c.next_merge.ensures
