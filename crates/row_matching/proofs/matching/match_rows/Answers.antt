use Rattle.std.proofs.Common.{◌≡◌, ◌∙◌, List, Some, length, filter, sym, ap, subst}
use Rattle.std.specs.Prelude.{IsSomeAnd, Option, option_map}
use Rattle.std.specs.List.{slice_get}
use Rattle.std.proofs.lemmas.Option.{slice_get-map}
use Rattle.col_disk.proofs.Moving.{moved_none}
use Rattle.catalog_types.specs.declared.catalogue.Catalogue.{Catalogue}
use Rattle.catalog_types.specs.declared.catalogue.Table.{Table}
use Rattle.col_value.specs.declared.column.Column.{Column}
use Rattle.proj_store.specs.Loaded.{Loaded}
use Rattle.stored_rows.specs.Stored.{Projected}
use Rattle.sql_bound.specs.Outputs.{is_kept}
use Rattle.table_store.specs.Held.{projections_of}
use Rattle.row_matching.specs.Seeing.{IsSource}
use Rattle.table_store.proofs.Blames.{stored_blamed}
use Rattle.row_matching.proofs.Answered.{IsAt, answered, got_at, none_blamed, own_of, stored_at}
use Rattle.row_matching.proofs.matching.match_rows.Goals as goal

pub returns-in_default-clause-moved : goal.returns-in_default-clause-moved
returns-in_default-clause-moved g c = moved_none g.D.Disk c.args.disk.now

pub returns-in-Err-clause-moved : goal.returns-in-Err-clause-moved
returns-in-Err-clause-moved g c = moved_none g.D.Disk c.args.disk.now

pub committed_rows-requires-clause-own : goal.committed_rows-requires-clause-own
committed_rows-requires-clause-own g c =
    let source = c.in-Ok.source in
    let store = c.in-Some-get-2.store.now in
    let one : slice_get c.as_slice-parts.result.now source.place ≡ Some store = got_at c.as_slice-parts.result.now source.place store c.in-Some-get-2.ensures.lookup.0 c.in-Some-get-2.ensures.lookup.1 in
    own_of c.as_slice-parts.result.now source.place (length c.as_slice-2.result.now) source.places.items store one c.in-Ok.ensures

pub returns-in-Err-committed_rows-clause-unblamed : goal.returns-in-Err-committed_rows-clause-unblamed
returns-in-Err-committed_rows-clause-unblamed g c = λ d can.
    let s = c.args.tables.now in
    let i = c.args.table in
    let t = c.in-Some.entry.now in
    let parts = c.in-Some-get.parts.now in
    let source = c.in-Ok.source in
    let store = c.in-Some-get-2.store.now in
    let tables : s.catalogue.tables ≡ c.as_slice.result.now = ap (λ (x : Catalogue). x.tables) c.root.ensures.root ∙ sym c.as_slice.ensures in
    let loaded : slice_get c.tables.result.now i ≡ Some parts = got_at c.tables.result.now i parts c.in-Some-get.ensures.lookup.0 c.in-Some-get.ensures.lookup.1 in
    let one : slice_get c.as_slice-parts.result.now source.place ≡ Some store = got_at c.as_slice-parts.result.now source.place store c.in-Some-get-2.ensures.lookup.0 c.in-Some-get-2.ensures.lookup.1 in
    let at : IsAt s i source.place (length c.as_slice-2.result.now) source.places.items t parts store = record {
      table = ap (λ (ts : List Table). slice_get ts i) tables ∙ got_at c.as_slice.result.now i t c.in-Some.ensures.lookup.0 c.in-Some.ensures.lookup.1;
      beside = ap (λ (xs : List (List Projected)). slice_get xs i) (sym c.tables.ensures) ∙ slice_get-map projections_of c.tables.result.now i ∙ ap (λ (o : Option (List Loaded)). option_map projections_of o) loaded;
      part = subst (λ (xs : List Loaded). slice_get xs source.place ≡ Some store) c.as_slice-parts.ensures one;
      source = subst (λ (xs : List Loaded). IsSomeAnd (slice_get xs source.place) (λ p. IsSource (length c.as_slice-2.result.now) source.places.items p.stored)) c.as_slice-parts.ensures c.in-Ok.ensures;
      many = ap (λ (cs : List Column). length cs) c.as_slice-2.ensures;
    } in
    none_blamed g.D.Disk c.args.disk.now s c.args.changes.now i source.place (length c.as_slice-2.result.now) source.places.items t parts store c.in-Err-committed_rows.fault d at c.in-Err-committed_rows.ensures.unblamed can

pub returns-in-Err-committed_rows-clause-blamed : goal.returns-in-Err-committed_rows-clause-blamed
returns-in-Err-committed_rows-clause-blamed g c =
    let s = c.args.tables.now in
    let i = c.args.table in
    let parts = c.in-Some-get.parts.now in
    let place = c.in-Ok.source.place in
    let store = c.in-Some-get-2.store.now in
    let loaded : slice_get c.tables.result.now i ≡ Some parts = got_at c.tables.result.now i parts c.in-Some-get.ensures.lookup.0 c.in-Some-get.ensures.lookup.1 in
    let one : slice_get c.as_slice-parts.result.now place ≡ Some store = got_at c.as_slice-parts.result.now place store c.in-Some-get-2.ensures.lookup.0 c.in-Some-get-2.ensures.lookup.1 in
    stored_blamed s.stores i place (projections_of parts) store.stored (g.D.Disk.holds c.args.disk.now) c.in-Err-committed_rows.fault
    (ap (λ (xs : List (List Projected)). slice_get xs i) (sym c.tables.ensures) ∙ slice_get-map projections_of c.tables.result.now i ∙ ap (λ (o : Option (List Loaded)). option_map projections_of o) loaded)
    (stored_at parts place store (subst (λ (xs : List Loaded). slice_get xs place ≡ Some store) c.as_slice-parts.ensures one)) c.in-Err-committed_rows.ensures.blamed

pub returns-in-Ok-kept_rows-clause-matched : goal.returns-in-Ok-kept_rows-clause-matched
returns-in-Ok-kept_rows-clause-matched g c = λ d can.
    let s = c.args.tables.now in
    let i = c.args.table in
    let t = c.in-Some.entry.now in
    let parts = c.in-Some-get.parts.now in
    let source = c.in-Ok.source in
    let store = c.in-Some-get-2.store.now in
    let tables : s.catalogue.tables ≡ c.as_slice.result.now = ap (λ (x : Catalogue). x.tables) c.root.ensures.root ∙ sym c.as_slice.ensures in
    let loaded : slice_get c.tables.result.now i ≡ Some parts = got_at c.tables.result.now i parts c.in-Some-get.ensures.lookup.0 c.in-Some-get.ensures.lookup.1 in
    let one : slice_get c.as_slice-parts.result.now source.place ≡ Some store = got_at c.as_slice-parts.result.now source.place store c.in-Some-get-2.ensures.lookup.0 c.in-Some-get-2.ensures.lookup.1 in
    let at : IsAt s i source.place (length c.as_slice-2.result.now) source.places.items t parts store = record {
      table = ap (λ (ts : List Table). slice_get ts i) tables ∙ got_at c.as_slice.result.now i t c.in-Some.ensures.lookup.0 c.in-Some.ensures.lookup.1;
      beside = ap (λ (xs : List (List Projected)). slice_get xs i) (sym c.tables.ensures) ∙ slice_get-map projections_of c.tables.result.now i ∙ ap (λ (o : Option (List Loaded)). option_map projections_of o) loaded;
      part = subst (λ (xs : List Loaded). slice_get xs source.place ≡ Some store) c.as_slice-parts.ensures one;
      source = subst (λ (xs : List Loaded). IsSomeAnd (slice_get xs source.place) (λ p. IsSource (length c.as_slice-2.result.now) source.places.items p.stored)) c.as_slice-parts.ensures c.in-Ok.ensures;
      many = ap (λ (cs : List Column). length cs) c.as_slice-2.ensures;
    } in
    answered c.one_list_of_rows.ensures.stored g.D.Disk c.args.disk.now s c.args.changes.now c.args.keep.now i source.place (length c.as_slice-2.result.now) c.last.result source.places.items c.as_slice-name.result.now t parts store
    c.pending_deletes-gone.result.now c.in-Ok-committed_rows.committed.items c.in-Ok-kept_rows.pending.items d at c.as_slice-name.ensures c.last.ensures c.pending_deletes-gone.ensures c.in-Ok-committed_rows.ensures.found
    (c.in-Ok-kept_rows.ensures.kept ∙ ap (filter (is_kept c.args.keep.now)) c.pending_rows.ensures.rows) can
