-- The files that hold rows hold indexes.
use Rattle.std.proofs.Common.{◌≡◌, ℕ, ◌<◌, List, [], ◌∷◌, length, refl, arith, subst}
use Rattle.std.specs.Prelude.{Option, Some, None}
use Rattle.std.specs.List.{All, AllZip}
use Rattle.std.specs.Option.{IfSome}
use Rattle.std.specs.FinMap.{get}
use Rattle.std.proofs.lemmas.List.{length-map}
use Rattle.std.proofs.lemmas.List.Elements.{All-head, All-tail}
use Rattle.common_laws.specs.Maps.{Contents}
use Rattle.catalog_types.specs.declared.catalogue.Container.{Container}
use Rattle.catalog_types.specs.declared.catalogue.Projection.{Projection}
use Rattle.col_value.specs.declared.row.Asked.{Asked}
use Rattle.col_value.specs.declared.row.Stamped.{Stamped}
use Rattle.pos_index.specs.Index.{index_spelling}
use Rattle.pos_index.specs.declared.index.PosIndex.{PosIndex}
use Rattle.ros_container.specs.Encodings.{written_as, written_of}
use Rattle.ros_container.specs.Files.{index_of, place_of}
use Rattle.ros_container.specs.Held.{HoldsContainer}
use Rattle.stored_rows.specs.Stored.{Beside, Projected, Stores, StoresRows}
use Rattle.container_blocks.proofs.Columns.{column_held}
use Rattle.container_blocks.proofs.Indexes.{has_default, has_file, is_behind}
use Rattle.exec_scan.specs.Counting.{HasIndexes, HaveIndexes, Indexes, IndexesDefaults}
use Rattle.exec_scan.specs.Opened.{HoldsNeeded, IsNeeded}
use Rattle.exec_scan.specs.Scanning.{AreOwn}

-- of a column
column_there : (p : Projection) (k : Container) (m : Contents) (asked : List Asked) (o : Option ℕ) → IfSome o (λ i. i < length p.columns) → HoldsContainer m (written_of p) k asked → IndexesDefaults p k
    → (x : Option PosIndex) × IsNeeded k.rows o x × HoldsNeeded (written_of p) k (Some m) o x
column_there p k m asked None own held defaults = (None, tt, tt)
column_there p k m asked (Some i) own held defaults = by (place_of (length (written_of p)) k i) refl
  where
    long : length (written_of p) ≡ length p.columns
    long = length-map p.columns written_as

    by : (q : Option ℕ) → place_of (length (written_of p)) k i ≡ q → (x : Option PosIndex) × IsNeeded k.rows (Some i) x × HoldsNeeded (written_of p) k (Some m) (Some i) x
    by None told =
        let behind = is_behind (length (written_of p)) k i (omega (arith, own, long)) told in
        let found = defaults i behind.0 own in
        (Some found.0, found.1, has_default (written_of p) k i found.0 (Some m) told found.2)
    by (Some place) told =
        let h = column_held (written_of p) k m i place asked told held in (
          Some h.at,
          record { is_index = h.is_index; fits = h.fits; of_rows = h.of_rows },
          has_file (written_of p) k i place h.at (Some m) told (λ n is.
              let same : m ≡ n = cc in
              subst (λ (c : Contents). get c (index_of k.base place) ≡ Some (index_spelling h.at)) same h.index_file),
        )

-- of a container
columns_there : (p : Projection) (k : Container) (m : Contents) (asked : List Asked) (ps : List (Option ℕ)) → AreOwn p ps → HoldsContainer m (written_of p) k asked → IndexesDefaults p k
    → (xs : List (Option PosIndex)) × AllZip (IsNeeded k.rows) ps xs × AllZip (HoldsNeeded (written_of p) k (Some m)) ps xs
columns_there p k m asked [] own held defaults = ([], tt, tt)
columns_there p k m asked (o ∷ ps) own held defaults =
    let one = column_there p k m asked o (All-head (λ (q : Option ℕ). IfSome q (λ i. i < length p.columns)) o ps own) held defaults in
    let more = columns_there p k m asked ps (All-tail (λ (q : Option ℕ). IfSome q (λ i. i < length p.columns)) o ps own) held defaults in
    (one.0 ∷ more.0, (one.1, more.1), (one.2, more.2))

containers_there : (p : Projection) (m : Contents) (ps : List (Option ℕ)) (ks : List Container) (bs : List Beside) (rows : List Stamped) → AreOwn p ps → StoresRows m (written_of p) ks bs rows → All (IndexesDefaults p) ks
    → (indexes : Indexes) × AllZip (HasIndexes m p ps) ks indexes
containers_there p m ps [] bs rows own stores defaults = ([], tt)
containers_there p m ps (k ∷ ks) [] rows own stores defaults = absurd stores
containers_there p m ps (k ∷ ks) (b ∷ bs) rows own (here, more, vector, (asked, held, are), behind, all) defaults =
    let one = columns_there p k m asked ps own held (All-head (IndexesDefaults p) k ks defaults) in
    let rest = containers_there p m ps ks bs more own behind (All-tail (IndexesDefaults p) k ks defaults) in
    (one.0 ∷ rest.0, (record { needed = one.1; held = one.2 }, rest.1))

pub stored_indexes : (m : Contents) (p : Projected) (rows : List Stamped) (places : List (Option ℕ)) → Stores m p rows → AreOwn p.entry places → All (IndexesDefaults p.entry) p.entry.containers → (indexes : Indexes) × HaveIndexes m p.entry places indexes
stored_indexes m p rows places stores own defaults = containers_there p.entry m places p.entry.containers p.beside stores.0 own stores.1 defaults
