use Rattle.std.proofs.Common.{◌≡◌, ◌∙◌, sym, ap}
use Rattle.catalog_types.specs.declared.catalogue.Catalogue.{Catalogue}
use Rattle.store_core.specs.Jobs.{stale_place}
use Rattle.store_core.proofs.First.{tables_at}
use Rattle.store_core.proofs.Found.{stale_empty, stale_fresh, stale_seen}
use Rattle.store_core.proofs.store.Store.next_stale.Goals as goal

pub returns-clause-first : goal.returns-clause-first
returns-clause-first c =
    let s = c.self.inside.tables in
    let tables : s.catalogue.tables ≡ c.as_slice.result.now = ap (λ (x : Catalogue). x.tables) c.root.ensures.root ∙ sym c.as_slice.ensures in
    let same = sym c.as_slice.ensures ∙ tables_at c.as_slice.result.now s c.self.inside.txns c.self.inside.current c.self.inside.mover c.args.self.now tables c.self.view_is in
    stale_seen c.root.result.now c.args.self.now.seen.catalogue same c.args.table c.stale_in.result (c.stale_in.ensures ∙ ap (stale_place c.args.table) c.as_slice.ensures)

pub returns-clause-stale : goal.returns-clause-stale
returns-clause-stale c =
    let s = c.self.inside.tables in
    let tables : s.catalogue.tables ≡ c.as_slice.result.now = ap (λ (x : Catalogue). x.tables) c.root.ensures.root ∙ sym c.as_slice.ensures in
    let same = sym c.as_slice.ensures ∙ tables_at c.as_slice.result.now s c.self.inside.txns c.self.inside.current c.self.inside.mover c.args.self.now tables c.self.view_is in
    stale_fresh c.root.result.now c.args.self.now.seen.catalogue c.root.ensures.valid same c.args.table c.stale_in.result (c.stale_in.ensures ∙ ap (stale_place c.args.table) c.as_slice.ensures)

pub returns-clause-empty : goal.returns-clause-empty
returns-clause-empty c =
    let s = c.self.inside.tables in
    let tables : s.catalogue.tables ≡ c.as_slice.result.now = ap (λ (x : Catalogue). x.tables) c.root.ensures.root ∙ sym c.as_slice.ensures in
    let same = sym c.as_slice.ensures ∙ tables_at c.as_slice.result.now s c.self.inside.txns c.self.inside.current c.self.inside.mover c.args.self.now tables c.self.view_is in
    stale_empty c.root.result.now c.args.self.now.seen.catalogue c.root.ensures.valid same c.args.table c.stale_in.result (c.stale_in.ensures ∙ ap (stale_place c.args.table) c.as_slice.ensures)
