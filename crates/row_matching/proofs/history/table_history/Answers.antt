use Rattle.std.proofs.Common.{ℕ, ◌≡◌, ◌∙◌, List, [], Some, length, sym, ap, subst}
use Rattle.std.specs.Prelude.{IsSomeAnd, Option, option_map}
use Rattle.std.specs.List.{slice_get}
use Rattle.std.proofs.lemmas.Option.{slice_get-map}
use Rattle.col_disk.proofs.Moving.{moved_none}
use Rattle.catalog_types.specs.declared.catalogue.Catalogue.{Catalogue}
use Rattle.catalog_types.specs.declared.catalogue.Table.{Table}
use Rattle.col_value.specs.declared.column.Column.{Column}
use Rattle.col_value.specs.declared.row.Stamped.{Stamped}
use Rattle.proj_store.specs.Loaded.{Loaded}
use Rattle.stored_rows.specs.Stored.{Projected}
use Rattle.table_store.specs.Held.{projections_of}
use Rattle.row_matching.specs.Keeping.{history, KeepsAll}
use Rattle.row_matching.specs.Seeing.{IsSource}
use Rattle.table_store.proofs.Blames.{stored_blamed}
use Rattle.row_matching.proofs.Answered.{IsAt, got_at, stored_at}
use Rattle.row_matching.proofs.Kept.{history_found, none_to_blame}
use Rattle.row_matching.proofs.history.table_history.Goals as goal

pub returns-in_default-clause-moved : goal.returns-in_default-clause-moved
returns-in_default-clause-moved g c = moved_none g.D.Disk c.args.disk.now

pub returns-in-Err-clause-moved : goal.returns-in-Err-clause-moved
returns-in-Err-clause-moved g c = moved_none g.D.Disk c.args.disk.now

pub returns-in-Err-stamped-clause-unblamed : goal.returns-in-Err-stamped-clause-unblamed
returns-in-Err-stamped-clause-unblamed g c = λ d stands.
    let s = c.args.tables.now in
    let i = c.args.table in
    let t = c.in-Some.entry.now in
    let parts = c.in-Some-get.parts.now in
    let source = c.in-Ok.source in
    let store = c.in-Some-get-2.store.now in
    let tables : s.catalogue.tables ≡ c.as_slice.result.now = ap (λ (x : Catalogue). x.tables) c.root.ensures.root ∙ sym c.as_slice.ensures in
    let loaded : slice_get c.tables.result.now i ≡ Some parts = got_at c.tables.result.now i parts c.in-Some-get.ensures.lookup.0 c.in-Some-get.ensures.lookup.1 in
    let one : slice_get c.as_slice-parts.result.now source.place ≡ Some store = got_at c.as_slice-parts.result.now source.place store c.in-Some-get-2.ensures.lookup.0 c.in-Some-get-2.ensures.lookup.1 in
    let at : IsAt s i source.place (length c.as_slice-2.result.now) source.places.items t parts store = record {
      table = ap (λ (ts : List Table). slice_get ts i) tables ∙ got_at c.as_slice.result.now i t c.in-Some.ensures.lookup.0 c.in-Some.ensures.lookup.1;
      beside = ap (λ (xs : List (List Projected)). slice_get xs i) (sym c.tables.ensures) ∙ slice_get-map projections_of c.tables.result.now i ∙ ap (λ (o : Option (List Loaded)). option_map projections_of o) loaded;
      part = subst (λ (xs : List Loaded). slice_get xs source.place ≡ Some store) c.as_slice-parts.ensures one;
      source = subst (λ (xs : List Loaded). IsSomeAnd (slice_get xs source.place) (λ p. IsSource (length c.as_slice-2.result.now) source.places.items p.stored)) c.as_slice-parts.ensures c.in-Ok.ensures;
      many = ap (λ (cs : List Column). length cs) c.as_slice-2.ensures;
    } in
    none_to_blame g.D.Disk c.args.disk.now s i source.place (length c.as_slice-2.result.now) source.places.items t parts store c.in-Err-stamped.fault d at c.in-Err-stamped.ensures.blamed stands

pub returns-in-Err-stamped-clause-blamed : goal.returns-in-Err-stamped-clause-blamed
returns-in-Err-stamped-clause-blamed g c =
    let s = c.args.tables.now in
    let i = c.args.table in
    let parts = c.in-Some-get.parts.now in
    let place = c.in-Ok.source.place in
    let store = c.in-Some-get-2.store.now in
    let loaded : slice_get c.tables.result.now i ≡ Some parts = got_at c.tables.result.now i parts c.in-Some-get.ensures.lookup.0 c.in-Some-get.ensures.lookup.1 in
    let one : slice_get c.as_slice-parts.result.now place ≡ Some store = got_at c.as_slice-parts.result.now place store c.in-Some-get-2.ensures.lookup.0 c.in-Some-get-2.ensures.lookup.1 in
    stored_blamed s.stores i place (projections_of parts) store.stored (g.D.Disk.holds c.args.disk.now) c.in-Err-stamped.fault
    (ap (λ (xs : List (List Projected)). slice_get xs i) (sym c.tables.ensures) ∙ slice_get-map projections_of c.tables.result.now i ∙ ap (λ (o : Option (List Loaded)). option_map projections_of o) loaded)
    (stored_at parts place store (subst (λ (xs : List Loaded). slice_get xs place ≡ Some store) c.as_slice-parts.ensures one)) c.in-Err-stamped.ensures.blamed

pub returns-in-Ok-retain-clause-found : goal.returns-in-Ok-retain-clause-found
returns-in-Ok-retain-clause-found g c = λ d stands le.
    let s = c.args.tables.now in
    let i = c.args.table in
    let t = c.in-Some.entry.now in
    let parts = c.in-Some-get.parts.now in
    let source = c.in-Ok.source in
    let store = c.in-Some-get-2.store.now in
    let tables : s.catalogue.tables ≡ c.as_slice.result.now = ap (λ (x : Catalogue). x.tables) c.root.ensures.root ∙ sym c.as_slice.ensures in
    let loaded : slice_get c.tables.result.now i ≡ Some parts = got_at c.tables.result.now i parts c.in-Some-get.ensures.lookup.0 c.in-Some-get.ensures.lookup.1 in
    let one : slice_get c.as_slice-parts.result.now source.place ≡ Some store = got_at c.as_slice-parts.result.now source.place store c.in-Some-get-2.ensures.lookup.0 c.in-Some-get-2.ensures.lookup.1 in
    let at : IsAt s i source.place (length c.as_slice-2.result.now) source.places.items t parts store = record {
      table = ap (λ (ts : List Table). slice_get ts i) tables ∙ got_at c.as_slice.result.now i t c.in-Some.ensures.lookup.0 c.in-Some.ensures.lookup.1;
      beside = ap (λ (xs : List (List Projected)). slice_get xs i) (sym c.tables.ensures) ∙ slice_get-map projections_of c.tables.result.now i ∙ ap (λ (o : Option (List Loaded)). option_map projections_of o) loaded;
      part = subst (λ (xs : List Loaded). slice_get xs source.place ≡ Some store) c.as_slice-parts.ensures one;
      source = subst (λ (xs : List Loaded). IsSomeAnd (slice_get xs source.place) (λ p. IsSource (length c.as_slice-2.result.now) source.places.items p.stored)) c.as_slice-parts.ensures c.in-Ok.ensures;
      many = ap (λ (cs : List Column). length cs) c.as_slice-2.ensures;
    } in
    history_found c.one_list_of_rows.ensures.stored g.D.Disk c.args.disk.now s i source.place (length c.as_slice-2.result.now) c.args.mark source.places.items t parts store c.in-Ok-stamped.stored.items c.in-Ok-retain.rows.items d at
    c.in-Ok-stamped.ensures.found
    (subst (λ (rows : List Stamped). KeepsAll (history c.args.mark source.places.items rows) [] c.in-Ok-retain.rows.items) c.as_slice-4.ensures.value
    (subst (λ (ps : List (Option ℕ)). KeepsAll (history c.args.mark ps c.as_slice-4.result.now) [] c.in-Ok-retain.rows.items) c.as_slice-3.ensures.value c.in-Ok-retain.ensures.kept)) stands le
