use Rattle.std.proofs.Common.{◌≡◌, ◌∙◌, List, Some, map, sym, ap, subst}
use Rattle.std.specs.Prelude.{Option, option_map}
use Rattle.std.specs.List.{slice_get}
use Rattle.std.proofs.lemmas.Option.{slice_get-map}
use Rattle.catalog_types.specs.declared.catalogue.Catalogue.{Catalogue}
use Rattle.catalog_types.specs.declared.catalogue.Projection.{Projection}
use Rattle.catalog_types.specs.declared.catalogue.Table.{Table}
use Rattle.stored_rows.specs.Stored.{Projected}
use Rattle.proj_store.specs.Loaded.{Loaded}
use Rattle.db_model.specs.Choice.{chosen_for}
use Rattle.folder_model.specs.Projections.{shape_of}
use Rattle.table_store.specs.Held.{projections_of}
use Rattle.store_query.proofs.Served.{got_at}
use Rattle.store_query.proofs.sources.projection_for.Goals as goal

pub returns : goal.returns
returns c =
    let s = c.args.tables.now in
    let f = c.args.item in
    let table = c.in-Some.table.now in
    let parts = c.in-Some-get.parts.now in
    let tables : s.catalogue.tables ≡ c.as_slice.result.now = ap (λ (x : Catalogue). x.tables) c.root.ensures.root ∙ sym c.as_slice.ensures in
    let loaded : slice_get c.tables.result.now f.table ≡ Some parts = got_at c.tables.result.now f.table parts c.in-Some-get.ensures.lookup.0 c.in-Some-get.ensures.lookup.1 in
    let one : slice_get c.as_slice-3.result.now c.in-Some-choose.place ≡ Some c.in-Some-get-2.store.now =
    got_at c.as_slice-3.result.now c.in-Some-choose.place c.in-Some-get-2.store.now c.in-Some-get-2.ensures.lookup.0 c.in-Some-get-2.ensures.lookup.1 in
    let own : slice_get parts c.in-Some-choose.place ≡ Some c.in-Some-get-2.store.now = subst (λ (xs : List Loaded). slice_get xs c.in-Some-choose.place ≡ Some c.in-Some-get-2.store.now) c.as_slice-3.ensures one in
    record {
      table = table;
      stores = projections_of parts;
      place = c.in-Some-choose.place;
      there = ap (λ (ts : List Table). slice_get ts f.table) tables ∙ got_at c.as_slice.result.now f.table table c.in-Some.ensures.lookup.0 c.in-Some.ensures.lookup.1;
      beside =
          ap (λ (xs : List (List Projected)). slice_get xs f.table) (sym c.tables.ensures) ∙ slice_get-map projections_of c.tables.result.now f.table
          ∙ ap (λ (o : Option (List Loaded)). option_map projections_of o) loaded;
      stored = slice_get-map (λ (x : Loaded). x.stored) parts c.in-Some-choose.place ∙ ap (λ (o : Option Loaded). option_map (λ x. x.stored) o) own;
      chosen = subst (λ (ps : List Projection). slice_get (map shape_of ps) c.in-Some-choose.place ≡ chosen_for c.args.query.now f (map shape_of ps)) c.as_slice-2.ensures c.in-Some-choose.ensures.chosen;
    }
