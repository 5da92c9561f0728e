use Rattle.std.proofs.Common.{◌≡◌, ◌∙◌, length, ap, sym}
use Rattle.std.specs.Prelude.{List}
use Rattle.catalog_types.specs.declared.catalogue.Catalogue.{Catalogue}
use Rattle.catalog_types.specs.declared.catalogue.ProjColumn.{ProjColumn}
use Rattle.mover_policy.proofs.Taken.{place_of}
use Rattle.store_core.proofs.Stepping.{steps_are, steps_fit}
use Rattle.store_core.proofs.store.Store.steps_at.Goals as goal

pub returns-in-Some : goal.returns-in-Some
returns-in-Some c =
    let s = c.self.inside.tables in
    let tables : s.catalogue.tables ≡ c.as_slice.result.now = ap (λ (x : Catalogue). x.tables) c.root.ensures.root ∙ sym c.as_slice.ensures in
    let long = ap (λ (cs : List ProjColumn). length cs) c.as_slice-in-Some.ensures in
    record {
      fit =
          steps_fit c.root.result.now c.as_slice.result.now (place_of c.args.at.table c.args.at.place) c.in-Some.projection.now (length c.as_slice-in-Some.result.now) c.root.ensures.valid c.as_slice.ensures
          c.in-Some.ensures long;
      are =
          steps_are c.as_slice.result.now s c.self.inside.txns c.self.inside.current c.self.inside.mover c.args.self.now c.args.at c.in-Some.projection.now (length c.as_slice-in-Some.result.now) tables
          c.self.view_is c.in-Some.ensures long;
    }
